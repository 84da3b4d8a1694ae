use Rattle.std.proofs.Common.{◌≡◌, ℕ}
use Rattle.ckpt_step.specs.Parts.{with_parts}
use Rattle.ckpt_step.specs.Rooms.{has_room, known_in}
use Rattle.ckpt_step.proofs.writing.put_parts.Given as goal

abbrev pub invariant-loop-part : goal.invariant-loop-part
invariant-loop-part l = record {
  known : (leaf : ℕ) → known_in l.parts leaf ≡ with_parts (known_in l.fn.parts) l.yielded leaf;
  rooms : (leaf : ℕ) → has_room l.parts leaf ≡ has_room l.fn.parts leaf;
}
