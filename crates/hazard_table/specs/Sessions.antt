-- What a caller knows of a pool and of a seat of it.
use Rattle.std.specs.Prelude.{◌≡◌, ℕ, suc, ◌+◌, ◌*◌, ◌<◌, ◌^◌, List, ◌++◌, length, replicate}
use Rattle.latch_table.specs.declared.latched.Latched.{Latched}
use Rattle.latch_table.specs.declared.seat.Seat.{Seat}
use Rattle.latch_table.specs.Tables.{IsNumbered, IsSeatOf, note_of, number_of_seat, pieces_in, shape_of, words_in}
use Rattle.hazard_law.specs.declared.known.Hazards.{Hazards}

-- the words of a pool that begins with these state words: no hazard word names a frame
abbrev pub first_words : List ℕ → ℕ → List ℕ
first_words states seats = states ++ replicate (5 * seats) 0

-- A is the law of the pieces with that of the words, H its hub, F its frame, N the note of the pieces' law
module _ {A H F N : Type 0} where
  -- the table has a state word for each frame, and five hazard words for each seat
  pub record IsSized (t : Latched A H F (Hazards N)) (n : ℕ) : Type 0 where
    pub frames : n ≡ (shape_of t).frames
    pub pieces : pieces_in t ≡ suc n
    pub some_seat : 0 < (shape_of t).seats
    pub words : words_in t ≡ n + 5 * (shape_of t).seats
    pub few : words_in t < 2 ^ 32

  -- a seat of this table that knows which it is
  pub record IsSession (t : Latched A H F (Hazards N)) (s : Seat A H F (Hazards N)) : Type 0 where
    pub seat : IsSeatOf t s
    pub numbered : IsNumbered s
    pub own : (note_of s).seat ≡ number_of_seat s
    pub shape : (note_of s).shape ≡ shape_of t
    pub range : number_of_seat s < (shape_of t).seats
    pub marks : length (note_of s).marks ≡ 5
    pub locks : length (note_of s).locks ≡ (shape_of t).frames
