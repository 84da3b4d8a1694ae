-- What a call on a word leaves: the note that its seat has then.
use Rattle.std.specs.Prelude.{◌≡◌, ◌≢◌, ◌⊎◌, ℕ, ◌*◌}
use Rattle.pool_law.specs.Whole.{Noted, noted}
use Rattle.hazard_law.specs.declared.known.Hazards.{Hazards}
use Rattle.hazard_law.specs.declared.known.Mark.TheVariants.{Blank, Names, Pins}
use Rattle.hazard_law.specs.declared.known.Lock.TheVariants.{Open, Locks}
use Rattle.hazard_law.specs.Safety.{HasLock, inner, scanned, with_lock, with_mark, with_note}
use Rattle.hazard_law.specs.Words.{empty, filled, hazard_place, hazard_word, locked, naming}
use Rattle.hazard_table.specs.declared.answers.Pinning.{Pinning}
use Rattle.hazard_table.specs.declared.answers.Pinning.TheVariants.{Pinned, Again}
use Rattle.hazard_table.specs.declared.answers.Looking.{Looking}
use Rattle.hazard_table.specs.declared.answers.Looking.TheVariants.{Empty, Again as NotEmpty}
use Rattle.hazard_table.specs.declared.answers.Locking.{Locking}
use Rattle.hazard_table.specs.declared.answers.Locking.TheVariants.{Locked, Again as NotLocked}
use Rattle.hazard_table.specs.declared.answers.Scanning.{Scanning}
use Rattle.hazard_table.specs.declared.answers.Scanning.TheVariants.{Clear, Pinned as Named}

-- which word of the table is the own hazard word w, and which the hazard word w of another session
abbrev pub own_word : {N : Type 0} → Noted (Hazards N) → ℕ → ℕ
own_word v w = hazard_word v.note.shape.frames v.note.seat w

abbrev pub word_of_session : {N : Type 0} → Noted (Hazards N) → ℕ → ℕ → ℕ
word_of_session v session w = hazard_word v.note.shape.frames session w

-- the seat locked the frame f at g, and has neither unlocked nor freed it since
abbrev pub HasLocked : {N : Type 0} → Noted (Hazards N) → ℕ → ℕ → Type 0
HasLocked v f g = (c : ℕ) × HasLock v.note f (Locks g c)

-- and has scanned every hazard word clear since
abbrev pub HasScannedAll : {N : Type 0} → Noted (Hazards N) → ℕ → ℕ → Type 0
HasScannedAll v f g = HasLock v.note f (Locks g (5 * v.note.shape.seats))

-- what the state word was, by the answer
abbrev pub word_at_look : ℕ → Looking → ℕ
word_at_look g Empty = empty g
word_at_look g (NotEmpty seen) = seen

abbrev pub word_at_lock : ℕ → Locking → ℕ
word_at_lock g Locked = filled g
word_at_lock g (NotLocked seen) = seen

abbrev pub word_at_validate : ℕ → Pinning → ℕ
word_at_validate g Pinned = filled g
word_at_validate g (Again seen) = seen

-- v is what the seat knew, and h its note after the call
module _ {N : Type 0} (turns : Noted N → ℕ → ℕ → ℕ → N → Type 0) (v : Noted (Hazards N)) (h : Hazards N) where
  -- the word i went from m to n in one step, and the note follows
  abbrev pub Steps : ℕ → ℕ → ℕ → (N → Hazards N) → Type 0
  Steps i m n after = (k : N) × turns (inner v) i m n k × (h ≡ after k)

  -- the own hazard word w names the frame f
  abbrev pub Publishes : ℕ → ℕ → Type 0
  Publishes w f = (m : ℕ) × Steps (own_word v w) m (naming f) (λ k. with_mark v.note k w (Names f))

  -- the own hazard word w names nothing
  abbrev pub Unpins : ℕ → Type 0
  Unpins w = (m : ℕ) × Steps (own_word v w) m 0 (λ k. with_mark v.note k w Blank)

  -- the frame is pinned; or its word was another, and then the hazard word pins at most another generation
  abbrev pub Validates : ℕ → ℕ → ℕ → Pinning → Type 0
  Validates w f g Pinned = Steps f (filled g) (filled g) (λ k. with_mark v.note k w (Pins f g))
  Validates w f g (Again seen) = (seen ≢ filled g)
      × (Steps f seen seen (with_note v.note) ⊎ ((e : ℕ) × (seen ≡ filled e) × Steps f seen seen (λ k. with_mark v.note k w (Pins f e))))

  -- the frame is pinned; or its word was another, and the hazard word names nothing
  abbrev pub PinsFrame : ℕ → ℕ → ℕ → Pinning → Type 0
  PinsFrame w f g Pinned = (m : ℕ) × (k : N) × (l : N) × turns (inner v) (own_word v w) m (naming f) k
      × turns (noted k v.held) f (filled g) (filled g) l × (h ≡ with_mark v.note l w (Pins f g))
  PinsFrame w f g (Again seen) = (seen ≢ filled g)
      × ((m : ℕ) × (p : ℕ) × (k : N) × (l : N) × (e : N) × turns (inner v) (own_word v w) m (naming f) k
      × turns (noted k v.held) f seen seen l
      × turns (noted l v.held) (own_word v w) p 0 e × (h ≡ with_mark v.note e w Blank))

  -- the frame is empty at g; or its word was another
  abbrev pub Looks : ℕ → ℕ → Looking → Type 0
  Looks f g Empty = Steps f (empty g) (empty g) (with_note v.note)
  Looks f g (NotEmpty seen) = (seen ≢ empty g) × Steps f seen seen (with_note v.note)

  -- the frame is locked, and no word is scanned yet; or its word was another
  abbrev pub LocksFrame : ℕ → ℕ → Locking → Type 0
  LocksFrame f g Locked = Steps f (filled g) (locked g) (λ k. with_lock v.note k f (Locks g 0))
  LocksFrame f g (NotLocked seen) = (seen ≢ filled g) × Steps f seen seen (with_note v.note)

  -- of a frame locked at g with c words scanned: the word does not name it, and counts where it is the next one; or it does
  abbrev pub Scans : ℕ → ℕ → ℕ → ℕ → ℕ → Scanning → Type 0
  Scans session w f g c Clear = (m : ℕ) × (d : ℕ) × (m ≢ naming f) × scanned (hazard_place session w) c d
      × Steps (word_of_session v session w) m m (λ k. with_lock v.note k f (Locks g d))
  Scans session w f g c (Named j) = (j ≡ session) × Steps (word_of_session v session w) (naming f) (naming f) (with_note v.note)

  -- the state word of the frame f goes from m to n, and the seat has no lock on it then
  abbrev pub Opens : ℕ → ℕ → ℕ → Type 0
  Opens f m n = Steps f m n (λ k. with_lock v.note k f Open)
