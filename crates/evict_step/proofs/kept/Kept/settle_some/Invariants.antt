use Rattle.std.proofs.Common.{◌≡◌, ℕ}
use Rattle.evict_step.specs.Kept.{list_of}
use Rattle.evict_step.proofs.kept.Kept.settle_some.Given as goal

abbrev pub invariant-loop : goal.invariant-loop
invariant-loop l = (leaf : ℕ) → list_of l.self leaf ≡ list_of l.fn.self leaf
