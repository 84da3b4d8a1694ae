use Rattle.std.proofs.Common.{◌≡◌, ℕ, take}
use Rattle.ckpt_step.specs.Parts.{HaveRoom}
use Rattle.ckpt_step.specs.Rooms.{known_in}
use Rattle.ckpt_step.proofs.writing.reserve_parts.Given as goal

abbrev pub invariant-loop-part : goal.invariant-loop-part
invariant-loop-part l = record {
  known : (leaf : ℕ) → known_in l.parts leaf ≡ known_in l.fn.parts leaf;
  room : HaveRoom l.parts (take l.part-index l.written);
}
