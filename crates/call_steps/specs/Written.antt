-- The keys that a transaction wrote, as runs of those of one leaf.
use Rattle.std.specs.Prelude.{ℕ, zero, suc, ◌==◌, List, if◌then◌else◌, slice_get}
use Rattle.kv_model.specs.Machine.{of_some}
use Rattle.call_steps.specs.declared.written.WrittenKey.{WrittenKey}

-- the frame of the last of the first `left` keys
abbrev pub frame_at : List WrittenKey → ℕ → ℕ
frame_at keys zero = 0
frame_at keys (suc n) = of_some 0 (λ (k : WrittenKey). k.frame) (slice_get keys n)

-- the slot of the last of the first `left` keys
abbrev pub slot_at : List WrittenKey → ℕ → ℕ
slot_at keys zero = 0
slot_at keys (suc n) = of_some 0 (λ (k : WrittenKey). k.slot) (slice_get keys n)

-- where the keys of this frame begin that end the first `left`
abbrev pub leaf_start : List WrittenKey → ℕ → ℕ → ℕ
leaf_start keys frame zero = 0
leaf_start keys frame (suc n) = if frame_at keys (suc n) == frame then leaf_start keys frame n else suc n
