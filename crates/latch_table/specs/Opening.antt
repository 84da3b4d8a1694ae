-- How a table begins.
use Rattle.std.specs.Prelude.{◌≡◌, ℕ, List, [], length, replicate}
use mathlib.Core.Option.{some}
use lib.ListN.{get_elem?}
use Rattle.std.specs.declared.vec.Vec.{Vec}
use Rattle.pool_law.specs.declared.part.Part.{Part}
use Rattle.pool_law.specs.declared.part.Part.TheVariants.{Gone}
use Rattle.pool_law.specs.declared.shape.Shape.{Shape}
use Rattle.latch_table.specs.declared.latched.Latched.{Latched}
use Rattle.latch_table.specs.declared.seat.Seat.{Seat}
use Rattle.latch_table.specs.Tables.{IsNumbered, IsSeatOf, note_of, number_of_seat, shape_of, taken}

abbrev pub shape : ℕ → ℕ → Shape
shape frames seats = record { frames = frames; seats = seats }

-- a row of empty places
abbrev pub IsGone : {H F A : Type 0} → ℕ → Vec (Part H F) A → Type 0
IsGone pieces row = row.items ≡ replicate pieces Gone

module _ {L H F N : Type 0} (start : ℕ → N) (t : Latched L H F N) where
  -- the seat of this number, as it begins
  abbrev pub IsFresh : ℕ → Seat L H F N → Type 0
  IsFresh j s = IsSeatOf t s × (number_of_seat s ≡ j) × (taken s ≡ []) × (note_of s ≡ start j) × IsNumbered s

  -- the seats of a new table, by number
  pub record AreSeats (seats : List (Seat L H F N)) : Type 0 where
    pub count : length seats ≡ (shape_of t).seats
    pub fresh : (j : ℕ) (s : Seat L H F N) → get_elem? seats j ≡ some s → IsFresh j s

  -- some of them, where the first can make the next
  pub record Grows (seats : List (Seat L H F N)) : Type 0 where
    pub fresh : (j : ℕ) (s : Seat L H F N) → get_elem? seats j ≡ some s → IsFresh j s
    pub first : (s : Seat L H F N) → get_elem? seats 0 ≡ some s → (s.raw.id ≡ 0) × (s.raw.me.0.made ≡ length seats) × (s.raw.me.0.shape ≡ shape_of t)
