-- A seat and the pieces that lie with it.
use Rattle.std.specs.Prelude.{◌≡◌, ◌⊎◌, ℕ, suc, ◌<◌, ◌≤◌, false, List, [], ◌∷◌, map, length, replicate, ◌++◌, drop}
use mathlib.Core.Option.{some}
use lib.ListN.{get_elem?}
use Rattle.atomic_table.specs.Seated.{TableId}
use Rattle.atomic_table.specs.declared.shared.Seat.{Seat}
use Rattle.pool_law.specs.declared.part.Part.{Part}
use Rattle.pool_law.specs.declared.part.Part.TheVariants.{Gone}
use Rattle.pool_law.specs.declared.part.Part.TheVariants.{Hub as HubPart, Frame as FramePart}
use Rattle.pool_law.specs.declared.piece.Piece.{Piece}
use Rattle.pool_law.specs.declared.shape.Shape.{Shape}
use Rattle.pool_law.specs.declared.piece.Piece.TheVariants.{Hub, Frame}
use Rattle.pool_law.specs.Whole.{noted, part_at, Whole, whole, Fits}
use Rattle.latch_table.specs.declared.view.View.{View}
use Rattle.latch_table.specs.Rule.{newcomer, starts}

abbrev pub piece_number : Piece → ℕ
piece_number Hub = 0
piece_number (Frame f) = suc f

abbrev pub vacated : {H F : Type 0} → ℕ × Part H F → ℕ × Part H F
vacated x = (x.0, Gone)

module _ {H F N : Type 0} where
  pub record Sits (z : TableId) (raw : Seat (Part H F) (View H F N)) (parts : List (Part H F)) : Type 0 where
    pub table : raw.table_id ≡ z
    pub mine : raw.me.0.spent ≡ false
    pub away : raw.me.1 ≡ map vacated raw.me.0.held
    pub room : length parts ≡ z.slots
    pub wide : z.slots ≤ z.words
    pub once : (a b k : ℕ) (p q : Part H F) → get_elem? raw.me.0.held a ≡ some (k, p) → get_elem? raw.me.0.held b ≡ some (k, q) → a ≡ b
    pub fit : (a k : ℕ) (p q : Part H F) → get_elem? raw.me.0.held a ≡ some (k, p) → get_elem? parts k ≡ some q → (k < z.slots) × Fits k q

  -- the first seat of a new table, as it begins
  abbrev pub IsFirst : N → Shape → TableId → Seat (Part H F) (View H F N) → Type 0
  IsFirst n shape z raw = (raw.table_id ≡ z) × (raw.id ≡ 0) × (raw.me ≡ (newcomer n shape 0 1, []))

  -- every seat is the collector or was gathered by it
  abbrev pub Covers : ℕ → View H F N → Type 0
  Covers total v = (j : ℕ) → j < total → (j ≡ v.seat) ⊎ ((a : ℕ) × (m : N) × (get_elem? v.gathered a ≡ some (j, m)))

  -- what is left at the end: the pieces of a whole that meets the rule and has the notes of all seats, behind the latches its words
  abbrev pub Leaves : (Whole H F N → Type 0) → View H F N → List ℕ → List (Part H F) → Type 0
  Leaves joint v words parts = (x : Whole H F N) × joint x × ((k : ℕ) → k < length parts → get_elem? parts k ≡ some (part_at x.hub x.frames k))
      × (length parts ≡ suc (length x.frames))
      × (drop (length parts) words ≡ x.words) × (length parts ≤ length words)
      × (get_elem? x.seats v.seat ≡ some (noted v.note []))
      × ((a j : ℕ) (m : N) → get_elem? v.gathered a ≡ some (j, m) → get_elem? x.seats j ≡ some (noted m []))

  -- the pieces in their slots, the latches, and the further words
  pub record Begins (start : ℕ → N) (total : ℕ) (joint : Whole H F N → Type 0) (words : List ℕ) (parts : List (Part H F)) : Type 0 where
    pub hub : H
    pub frames : List F
    pub further : List ℕ
    pub parts_are : parts ≡ HubPart hub ∷ map FramePart frames
    pub words_are : words ≡ replicate (suc (length frames)) 0 ++ further
    pub some_seat : 0 < total
    pub kept : joint (whole further hub frames (starts start 0 total))
