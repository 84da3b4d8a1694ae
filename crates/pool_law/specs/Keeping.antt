-- A law for tests: among the first n further words each seat alone changes the one of its own number, and knows what it is.
use Rattle.std.specs.Prelude.{◌≡◌, ◌≢◌, ◌⊎◌, ℕ, ◌<◌, ◌≤◌, length, slice_index}
use mathlib.Core.Option.{some}
use lib.ListN.{get_elem?}
use Rattle.pool_law.specs.declared.part.Part.{Part}
use Rattle.pool_law.specs.Whole.{Noted, Whole}

-- a note: the seat's number, and what its own word is
abbrev pub Own : Type 0
Own = ℕ × ℕ

pub record Kept (n : ℕ) (x : Whole ℕ ℕ Own) : Type 0 where
  pub wide : n ≤ length x.words
  pub number : (j : ℕ) (v : Noted Own) → get_elem? x.seats j ≡ some v → v.note.0 ≡ j
  pub own : (j : ℕ) (v : Noted Own) → get_elem? x.seats j ≡ some v → j < n → slice_index x.words j ≡ v.note.1

abbrev pub finds_own : ℕ → Noted Own → ℕ → ℕ → Type 0
finds_own n v i r = i ≡ v.note.0 → i < n → r ≡ v.note.1

-- the own word may become anything, and the seat knows it then; of the others only those behind the first n may change
abbrev pub turns_own : ℕ → Noted Own → ℕ → ℕ → ℕ → Own → Type 0
turns_own n v i m t k = ((i ≡ v.note.0) × (k ≡ (i, t))) ⊎ ((i ≢ v.note.0) × (i < n → t ≡ m) × (k ≡ v.note))

-- a piece may be put back as anything, and tells nothing
abbrev pub tells_nothing : Noted Own → ℕ → Part ℕ ℕ → Own → Type 0
tells_nothing v k p m = m ≡ v.note

abbrev pub puts_anything : Noted Own → ℕ → Part ℕ ℕ → Part ℕ ℕ → Own → Type 0
puts_anything v k p y m = m ≡ v.note
