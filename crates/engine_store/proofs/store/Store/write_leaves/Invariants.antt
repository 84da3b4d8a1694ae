use Rattle.engine_store.proofs.WritingOut.{SoFar}
use Rattle.engine_store.proofs.store.Store.write_leaves.Given as goal

abbrev pub invariant-loop-frame : goal.invariant-loop-frame
invariant-loop-frame g l = SoFar g.D.Disk l.fn.self l.self l.fn.disk l.disk
