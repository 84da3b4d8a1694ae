use Rattle.std.proofs.Common.{take}
use Rattle.engine_store.specs.Places.{AreOver}
use Rattle.engine_store.proofs.places.trees_over.Given as goal

abbrev pub invariant-loop-place : goal.invariant-loop-place
invariant-loop-place l = AreOver l.trees.items (take l.place l.tables) (take l.place l.uppers)
