-- What stands on a device stays there while the bytes of its blocks do.
use Rattle.std.proofs.Common.{◌≡◌, ℕ, ◌+◌, ◌≤◌, List, [], ◌∷◌, length, min, sym, ap, ◌∙◌, arith}
use Rattle.std.specs.Prelude.{◌⊎◌}
use Rattle.std.proofs.Common.{inl, inr}
use Rattle.disk_model.specs.Disk.{Torn}
use Rattle.disk_model.specs.Ranges.{range, range_take, range_torn_after}
use Rattle.stored.specs.Blocks.{Block, IsAt, Holds, SameAt, Same, Away}

at_frame : (old new : List ℕ) (b : Block) → length old ≤ length new → SameAt old new b → IsAt old b → IsAt new b
at_frame old new b longer same at = record { within = omega (arith, at.within, longer); is = same ∙ at.is }

pub frame : (old new : List ℕ) (blocks : List Block) → length old ≤ length new → Same old new blocks → Holds old blocks → Holds new blocks
frame old new [] longer same holds = tt
frame old new (b ∷ blocks) longer same holds = (at_frame old new b longer same.0 holds.0, frame old new blocks longer same.1 holds.1)

-- what lies before a write, and before the old end, stays
pub torn_before : (at size : ℕ) (old new : List ℕ) (i n : ℕ) → Torn at size old new → i + n ≤ at → i + n ≤ length old → range new i n ≡ range old i n
torn_before at size old new i n torn le within =
    let m = min at (length old) in
    let low : i + n ≤ min at (length old) = omega (arith, le, within) in
    sym (range_take new m i n low) ∙ ap (λ (l : List ℕ). range l i n) torn.before ∙ range_take old m i n low

torn_at : (at n : ℕ) (old new : List ℕ) (b : Block) → Torn at n old new → (at + n ≤ b.place.offset) ⊎ (b.place.offset + b.place.size ≤ at) → IsAt old b → SameAt old new b
torn_at at n old new b torn (inl after) is = range_torn_after at n old new b.place.offset b.place.size torn after
torn_at at n old new b torn (inr before) is = torn_before at n old new b.place.offset b.place.size torn before is.within

-- a write that a crash cuts short leaves the blocks that it does not touch
pub torn_same : (at n : ℕ) (old new : List ℕ) (blocks : List Block) → Torn at n old new → Away at n blocks → Holds old blocks → Same old new blocks
torn_same at n old new [] torn away holds = tt
torn_same at n old new (b ∷ blocks) torn away holds = (torn_at at n old new b torn away.0 holds.0, torn_same at n old new blocks torn away.1 holds.1)
