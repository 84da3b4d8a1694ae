use Rattle.std.proofs.Common.{refl}
use Rattle.engine_store.proofs.GoingOut.{none_out, out_then}
use Rattle.engine_store.proofs.store.Store.turn.Goals as goal

pub loop-init : goal.loop-init
loop-init g c = none_out g.D.Disk c.args.self.now _ refl refl refl refl

pub loop-preserved : goal.loop-preserved
loop-preserved g c = out_then g.D.Disk c.args.self.now c.loop.self c.next_out.new.self c.loop.invariant c.next_out.ensures

pub returns-then-over-eq0 : goal.returns-then-over-eq0
returns-then-over-eq0 g c = c.loop.invariant
