use Rattle.std.proofs.Common.{◌≡◌, ℕ, List, [], length}
use Rattle.leaf_chains.specs.Slots.{chain_at}
use Rattle.reconcile.specs.Gathered.{slots_at}
use Rattle.leaf_frame.proofs.updates.has_updates.Given as goal

abbrev pub invariant-loop-slot : goal.invariant-loop-slot
invariant-loop-slot l = ((key : List ℕ) → chain_at key (slots_at l.chains l.walk) ≡ []) → (key : List ℕ) → chain_at key (slots_at l.chains l.initial.walk) ≡ []

abbrev pub decreases-loop-slot : goal.decreases-loop-slot
decreases-loop-slot l = length l.walk
