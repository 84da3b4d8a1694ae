-- The slots in the order of their tables, and in a table in that of their keys.
use Rattle.std.specs.Prelude.{◌≡◌, ℕ, ◌<◌, List, [], ◌∷◌, length, slice_get, Option, Some, None}
use Rattle.std.specs.List.{All, AllPairs, Contains}
use Rattle.std.specs.Ordering.{nat_cmp}
use Rattle.std.specs.Cmp.Lexicographic.{slice_cmp}
use Rattle.std.specs.declared.cmp.Ordering.{Ordering}
use Rattle.std.specs.declared.cmp.Ordering.TheVariants.{Less}
use Rattle.hist_store.specs.declared.key_history.KeyHistory.{KeyHistory}

-- what a slot is ordered by: its table, then the bytes of its key
abbrev pub slot_key : KeyHistory → List ℕ
slot_key h = h.table ∷ h.key

-- nothing where there is no such slot
abbrev pub rank_key : Option KeyHistory → List ℕ
rank_key None = []
rank_key (Some h) = slot_key h

abbrev pub rank_at : List KeyHistory → ℕ → List ℕ
rank_at slots i = rank_key (slice_get slots i)

-- how what slot i is ordered by compares with this
abbrev pub rank_order : List KeyHistory → List ℕ → ℕ → Ordering
rank_order slots place i = slice_cmp nat_cmp (rank_at slots i) place

-- the table of slot i is below that of slot j, or it is the same and the key is below
abbrev pub IsSlotBelow : List KeyHistory → ℕ → ℕ → Type 0
IsSlotBelow slots i j = rank_order slots (rank_at slots j) i ≡ Less

-- each slot is named once, in the order of tables and keys
pub record IsWay (slots : List KeyHistory) (way : List ℕ) : Type 0 where
  pub within : All (λ i. i < length slots) way
  pub ascends : AllPairs (IsSlotBelow slots) way
  pub whole : (i : ℕ) → i < length slots → Contains way i
