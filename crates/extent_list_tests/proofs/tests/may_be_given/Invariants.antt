use Rattle.std.proofs.Common.{◌≤◌, ◌<◌, ℕ}
use Rattle.extent_list.specs.Space.{IsFree}
use Rattle.extent_list_tests.proofs.tests.may_be_given.Given as goal

abbrev pub invariant-loop-b : goal.invariant-loop-b
invariant-loop-b l = (b : ℕ) → l.at ≤ b → b < l.b → IsFree l.extents b → ⊥
