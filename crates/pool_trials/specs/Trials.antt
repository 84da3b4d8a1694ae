-- What a trial keeps of its seats.
use Rattle.std.specs.Prelude.{◌≡◌, ℕ, []}
use Rattle.pool_law.specs.Keeping.{Own}
use Rattle.latch_table.specs.declared.latched.Latched.{Latched}
use Rattle.latch_table.specs.declared.seat.Seat.{Seat}
use Rattle.latch_table.specs.Tables.{note_of, number_of_seat, shape_of, taken}
use Rattle.hazard_law.specs.declared.known.Hazards.{Hazards}
use Rattle.hazard_law.specs.declared.known.Lock.TheVariants.{Locks}
use Rattle.hazard_law.specs.Safety.{HasLock, Marks}
use Rattle.hazard_law.specs.Words.{locked}
use Rattle.hazard_law.specs.declared.known.Mark.TheVariants.{Names}
use Rattle.hazard_table.specs.declared.answers.Locking.{Locking}
use Rattle.hazard_table.specs.declared.answers.Locking.TheVariants.{Locked, Again}
use Rattle.hazard_table.specs.Sessions.{IsSession}

module _ {A : Type 0} where
  -- a seat of a pool of two keepers, which holds nothing and knows what its own state word is
  pub record IsKeeper (t : Latched A ℕ ℕ (Hazards Own)) (s : Seat A ℕ ℕ (Hazards Own)) (word : ℕ) : Type 0 where
    pub session : IsSession t s
    pub idle : taken s ≡ []
    pub note : (note_of s).note ≡ (number_of_seat s, word)
    pub frames : (shape_of t).frames ≡ 2
    pub seats : (shape_of t).seats ≡ 2

  -- it has its own frame locked at g, as the frame that it locked last, and has scanned so many words clear since
  abbrev pub HasOwnLocked : Seat A ℕ ℕ (Hazards Own) → ℕ → ℕ → Type 0
  HasOwnLocked s g c = HasLock (note_of s) (number_of_seat s) (Locks g c) × ((note_of s).last_frame ≡ number_of_seat s)

  abbrev pub IsLocked : Seat A ℕ ℕ (Hazards Own) → ℕ → Type 0
  IsLocked s g = (c : ℕ) × HasOwnLocked s g c

  -- what it knows of its own word is the same
  abbrev pub StaysKeeper : Latched A ℕ ℕ (Hazards Own) → Seat A ℕ ℕ (Hazards Own) → Seat A ℕ ℕ (Hazards Own) → Type 0
  StaysKeeper t s u = (word : ℕ) → IsKeeper t s word → IsKeeper t u word

  -- the own frame is locked, and no word is scanned yet; or its word is another
  abbrev pub LocksOwn : Latched A ℕ ℕ (Hazards Own) → Seat A ℕ ℕ (Hazards Own) → ℕ → Locking → Type 0
  LocksOwn t s g Locked = IsKeeper t s (locked g) × HasOwnLocked s g 0
  LocksOwn t s g (Again seen) = IsKeeper t s seen

  -- the first hazard word, which was written last, names the frame
  abbrev pub PointsAt : Seat A ℕ ℕ (Hazards Own) → ℕ → Type 0
  PointsAt s f = Marks (note_of s) 0 (Names f) × ((note_of s).last_word ≡ 0)
