use Rattle.std.proofs.Common.{inl, inr}
use Rattle.dump_text.proofs.taken.config.Goals as goal

pub returns-clause-none : goal.returns-clause-none
returns-clause-none c = elim c.in-Err.ensures.refused [
  | inl wanted ↦ absurd (c.in_default.not-NoMemory wanted)
  | inr wrong ↦ λ to said takes. wrong.1 takes.0 takes.1
]
