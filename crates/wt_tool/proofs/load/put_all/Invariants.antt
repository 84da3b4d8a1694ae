use Rattle.std.proofs.Common.{◌≡◌, ◌<◌, false, length}
use Rattle.std.specs.Prelude.{Ok}
use Rattle.wt_tool.specs.Loads.{LoadsRows, PutsRows}
use Rattle.wt_tool.specs.Writes.{demand_of}
use Rattle.wt_tool.specs.Led.{CallWent, Leading, LedBy, OutWent}
use Rattle.wt_tool.proofs.load.put_all.Given as goal

abbrev pub invariant-rows : goal.invariant-rows
invariant-rows g l = record {
  -- what the rows that are left run is what all of them do
  led : Leading g.D.Disk l.fn.store l.fn.disk (λ start first w. LedBy g.D.Disk start first w l.store l.fn.disk l.disk (LoadsRows l.fn.name l.fn.formats (demand_of l.fn.overwrite) l.fn.rows) (PutsRows l.fn.name (demand_of l.fn.overwrite) l.rows) (Ok tt));
  out : OutWent g.D.Disk l.fn.store l.store l.fn.disk l.disk (Ok tt);
  -- rows of a table that is not new stay in memory
  looked : l.is_new ≡ false → CallWent g.D.Disk l.fn.store l.store l.fn.disk l.disk (Ok tt);
  there : 0 < length l.store.engine.sessions;
}

abbrev pub decreases-rows : goal.decreases-rows
decreases-rows g l = length l.rows
