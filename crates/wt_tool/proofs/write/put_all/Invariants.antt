use Rattle.std.proofs.Common.{◌<◌, drop, length}
use Rattle.std.specs.Prelude.{Ok}
use Rattle.wt_line.specs.Line.{pair_texts}
use Rattle.wt_tool.specs.Points.{WithSession}
use Rattle.wt_tool.specs.Writes.{PutsPairs, demand_of}
use Rattle.wt_tool.specs.Led.{CallWent, Leading, LedBy}
use Rattle.wt_tool.proofs.write.put_all.Given as goal

abbrev pub invariant-loop-key : goal.invariant-loop-key
invariant-loop-key g l = record {
  -- what the pairs that are left run is what all of them do
  led : Leading g.D.Disk l.fn.store l.fn.disk (λ start first w. LedBy g.D.Disk start first w l.store l.fn.disk l.disk (λ p ran. WithSession (PutsPairs l.fn.name (demand_of l.fn.overwrite) (pair_texts l.fn.pairs)) p ran) (PutsPairs l.fn.name (demand_of l.fn.overwrite) (pair_texts (drop l.key-index l.pairs))) (Ok tt));
  went : CallWent g.D.Disk l.fn.store l.store l.fn.disk l.disk (Ok tt);
  there : 0 < length l.store.engine.sessions;
}
