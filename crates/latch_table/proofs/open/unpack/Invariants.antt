use Rattle.std.proofs.Common.{◌≡◌, ◌≤◌, ◌∷◌, List, map, length}
use Rattle.std.specs.Prelude.{vec_capacity}
use Rattle.pool_law.specs.declared.part.Part.TheVariants.{Hub, Frame}
use Rattle.latch_table.proofs.Packing.{Packs}
use Rattle.latch_table.proofs.open.unpack.Given as goal

abbrev pub invariant-loop-part : goal.invariant-loop-part
invariant-loop-part g l = (all : List _) × (h : _) × (l.hub ≡ Hub h) × (l.fn.parts.items ≡ Hub h ∷ map Frame all) × Packs all l.frames.items l.parts.items × (length all ≤ vec_capacity l.frames)

abbrev pub decreases-loop-part : goal.decreases-loop-part
decreases-loop-part g l = length l.parts.items
