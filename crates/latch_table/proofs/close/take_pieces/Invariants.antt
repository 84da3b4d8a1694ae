use Rattle.std.proofs.Common.{◌≡◌, ℕ, ◌-◌, ◌<◌, ◌≤◌, ◌∷◌, List, map, length, false, get_or}
use Rattle.std.specs.Prelude.{vec_capacity}
use Rattle.std.specs.Mem.Slots.{slots_filled, slots_items, slots_len}
use Rattle.std.specs.Mem.Slots.Ownership.{Filled}
use Rattle.pool_law.specs.declared.part.Part.TheVariants.{Hub, Frame}
use Rattle.latch_table.proofs.Ending.{LeftFrom}
use Rattle.latch_table.proofs.close.take_pieces.Given as goal

abbrev pub invariant-loop-i : goal.invariant-loop-i
invariant-loop-i g l =
    Filled (slots_filled l.closed.slots) l.i (slots_len l.closed.slots) × ((k : ℕ) → k < l.i → get_or (slots_filled l.closed.slots) k false ≡ false)
    × (slots_items l.closed.slots ≡ slots_items l.fn.closed.slots) × (l.i ≤ slots_len l.closed.slots)
    × ((all : List _) × (slots_items l.fn.closed.slots ≡ Hub l.hub ∷ map Frame all) × LeftFrom all l.frames.items (slots_items l.fn.closed.slots) l.i × (length all ≤ vec_capacity l.frames))

abbrev pub decreases-loop-i : goal.decreases-loop-i
decreases-loop-i g l = slots_len l.closed.slots - l.i
