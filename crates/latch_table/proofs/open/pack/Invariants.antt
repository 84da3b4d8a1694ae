use Rattle.std.proofs.Common.{◌≡◌, length}
use Rattle.std.specs.Prelude.{vec_capacity}
use Rattle.latch_table.proofs.Packing.{Packs}
use Rattle.latch_table.proofs.open.pack.Given as goal

abbrev pub invariant-loop-frame : goal.invariant-loop-frame
invariant-loop-frame g l = Packs l.initial.frames.items l.frames.items l.parts.items × (vec_capacity l.frames ≡ vec_capacity l.initial.frames) × (vec_capacity l.parts ≡ vec_capacity l.initial.parts)

abbrev pub decreases-loop-frame : goal.decreases-loop-frame
decreases-loop-frame g l = length l.frames.items
