use Rattle.std.proofs.Common.{◌≡◌, ◌-◌, ◌+◌, ◌≤◌, ◌++◌, drop, length}
use Rattle.std.specs.Prelude.{vec_capacity}
use Rattle.std.specs.Slots.{slots_items, slots_len}
use Rattle.latch_table.proofs.close.read_words.Given as goal

abbrev pub invariant-loop-i : goal.invariant-loop-i
invariant-loop-i g l =
    (l.words.items ++ drop l.i (slots_items l.closed.words) ≡ drop l.from (slots_items l.closed.words))
    × (l.from ≤ l.i) × (l.i ≤ slots_len l.closed.words) × (l.from + length l.words.items ≡ l.i)
    × (slots_len l.closed.words ≤ l.from + vec_capacity l.words)

abbrev pub decreases-loop-i : goal.decreases-loop-i
decreases-loop-i g l = slots_len l.closed.words - l.i
