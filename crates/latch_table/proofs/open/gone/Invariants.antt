use Rattle.std.proofs.Common.{◌≡◌, ◌≤◌, replicate}
use Rattle.std.specs.Prelude.{vec_capacity}
use Rattle.pool_law.specs.declared.part.Part.TheVariants.{Gone}
use Rattle.latch_table.proofs.open.gone.Given as goal

abbrev pub invariant-loop : goal.invariant-loop
invariant-loop g l = (l.parts.items ≡ replicate l.counter Gone) × (l.pieces ≤ vec_capacity l.parts)
