-- What a caller knows of a table and of a seat of it.
use Rattle.std.specs.Prelude.{◌≡◌, ℕ, ◌-◌, List, ◌∷◌, slice_set}
use mathlib.Core.Option.{Option, some}
use lib.ListN.{get_elem?}
use Rattle.pool_law.specs.declared.part.Part.{Part}
use Rattle.pool_law.specs.declared.shape.Shape.{Shape}
use Rattle.pool_law.specs.Whole.{Noted, Fits}
use Rattle.latch_table.specs.declared.latched.Latched.{Latched}
use Rattle.latch_table.specs.declared.latching.Latching.{Latching}
use Rattle.latch_table.specs.declared.latching.Latching.TheVariants.{Held, Again}
use Rattle.latch_table.specs.declared.seat.Seat.{Seat}
use Rattle.latch_table.specs.Rule.{known}
use Rattle.latch_table.specs.Seats.{Sits}

-- L is the law, H its hub, F its frame, N its note
module _ {L H F N : Type 0} where
  -- how many pieces a table has, the hub and the frames, and how many further words
  abbrev pub pieces_in : Latched L H F N → ℕ
  pieces_in t = t.table.shared.table_id.slots

  abbrev pub words_in : Latched L H F N → ℕ
  words_in t = t.table.shared.table_id.words - t.table.shared.table_id.slots

  abbrev pub shape_of : Latched L H F N → Shape
  shape_of t = t.table.shared.key

  -- a seat of this table, and its number, from 0
  abbrev pub IsSeatOf : Latched L H F N → Seat L H F N → Type 0
  IsSeatOf t s = Sits t.table.shared.table_id s.raw s.parts.items

  abbrev pub number_of_seat : Seat L H F N → ℕ
  number_of_seat s = s.raw.me.0.seat

  -- the seat carries its number
  abbrev pub IsNumbered : Seat L H F N → Type 0
  IsNumbered s = s.number ≡ number_of_seat s

  -- the same seat, and the same number with it
  abbrev pub SameSeat : Seat L H F N → Seat L H F N → Type 0
  SameSeat s t = (number_of_seat t ≡ number_of_seat s) × (t.number ≡ s.number)

  -- its note with the numbers of the pieces that it holds, and its note alone
  abbrev pub knows : Seat L H F N → Noted N
  knows s = known s.raw.me.0

  abbrev pub note_of : Seat L H F N → N
  note_of s = s.raw.me.0.note

  -- the pieces that it holds, each as it was when it was taken, the one taken last first
  abbrev pub taken : Seat L H F N → List (ℕ × Part H F)
  taken s = s.raw.me.0.held

  -- the pieces that lie with it as they are now, by number
  abbrev pub pieces_with : Seat L H F N → List (Part H F)
  pieces_with s = s.parts.items

  abbrev pub piece_with : Seat L H F N → ℕ → Option (Part H F)
  piece_with s k = get_elem? (pieces_with s) k

  -- what is the same after a step that moves no piece
  abbrev pub SamePieces : Seat L H F N → Seat L H F N → Type 0
  SamePieces s t = (taken t ≡ taken s) × (pieces_with t ≡ pieces_with s) × SameSeat s t

  -- the seat holds the piece k, and was told so; or another seat held it, and nothing changed
  abbrev pub Latches : (Noted N → ℕ → Part H F → N → Type 0) → ℕ → Seat L H F N → Seat L H F N → Latching → Type 0
  Latches told k s t Held = (x : Part H F) × (taken t ≡ (k, x) ∷ taken s) × (pieces_with t ≡ slice_set (pieces_with s) k x)
      × Fits k x × told (knows s) k x (note_of t)
  Latches told k s t (Again seen) = (note_of t ≡ note_of s) × (taken t ≡ taken s) × (pieces_with t ≡ pieces_with s) × (seen ≡ 1)

  -- the seat took the piece k last, and may put it back as it is now
  abbrev pub MayPut : (Noted N → ℕ → Part H F → Part H F → N → Type 0) → ℕ → Seat L H F N → Type 0
  MayPut puts k s = (x : Part H F) × (y : Part H F) × (held : List (ℕ × Part H F)) × (n : N)
      × (taken s ≡ (k, x) ∷ held) × (piece_with s k ≡ some y) × puts (knows s) k x y n

  -- the seat put the piece k back, and its note followed
  abbrev pub Puts : (Noted N → ℕ → Part H F → Part H F → N → Type 0) → ℕ → Seat L H F N → Seat L H F N → Type 0
  Puts puts k s t = (x : Part H F) × (y : Part H F) × (taken s ≡ (k, x) ∷ taken t) × (piece_with s k ≡ some y) × puts (knows s) k x y (note_of t)
