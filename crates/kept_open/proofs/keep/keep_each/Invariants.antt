use Rattle.std.proofs.Common.{◌≡◌, ℕ}
use Rattle.evict_step.specs.Kept.{list_of}
use Rattle.kept_open.specs.Keeping.{moved_in}
use Rattle.kept_open.proofs.keep.keep_each.Given as goal

abbrev pub invariant-loop-of : goal.invariant-loop-of
invariant-loop-of l = (id : ℕ) → list_of l.kept id ≡ moved_in l.leaves.leaves l.yielded id
