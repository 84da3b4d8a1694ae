use Rattle.std.proofs.Common.{◌≡◌, ℕ, inl, inr, subst}
use Rattle.block_mgr.specs.Open.{AgreeUpTo}
use Rattle.block_mgr.proofs.blocks.Blocks.open.Goals as goal

pub returns-in-Err-admit_all-clause-first : goal.returns-in-Err-admit_all-clause-first
returns-in-Err-admit_all-clause-first c i j is = elim c.in-Err-admit_all.ensures.err [
  | inl none ↦ cc
  | inr there ↦ let same : there.1 ≡ j = cc in subst (λ (k : ℕ). AgreeUpTo c.args.found.now k) same there.5
]
