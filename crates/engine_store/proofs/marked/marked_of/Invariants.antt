use Rattle.engine_store.proofs.MarkedIds.{AreMarkedUpTo}
use Rattle.engine_store.proofs.marked.marked_of.Given as goal

abbrev pub invariant-loop-place : goal.invariant-loop-place
invariant-loop-place l = AreMarkedUpTo l.engine.hub.tables.tables l.engine.hub.dir.leaves l.marks l.place l.marked.items
