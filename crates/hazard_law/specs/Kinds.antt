-- The kinds of steps on words, one each: from what a seat knows, the word and what it was and is, each tells the note then.
use Rattle.std.specs.Prelude.{◌≡◌, ◌≢◌, ◌⊎◌, ℕ, suc, ◌+◌, ◌*◌, ◌<◌}
use Rattle.pool_law.specs.Whole.{Noted}
use Rattle.hazard_law.specs.declared.known.Hazards.{Hazards}
use Rattle.hazard_law.specs.declared.known.Mark.TheVariants.{Blank, Names, Pins}
use Rattle.hazard_law.specs.declared.known.Lock.TheVariants.{Open, Locks}
use Rattle.hazard_law.specs.Words.{empty, filled, locked, hazard_word, naming}
use Rattle.hazard_law.specs.Safety.{Beside, Marks, HasLock, with_note, with_mark, with_lock, scanned}

module _ {N : Type 0} (turns : Noted N → ℕ → ℕ → ℕ → N → Type 0) (v : Noted (Hazards N)) (i m n : ℕ) (after : Hazards N) where
  -- the word i is the own hazard word w
  abbrev pub IsOwn : ℕ → Type 0
  IsOwn w = (w < 5) × (i ≡ hazard_word v.note.shape.frames v.note.seat w)

  -- the word i is the state word of the frame f
  abbrev pub IsState : ℕ → Type 0
  IsState f = (f < v.note.shape.frames) × (i ≡ f)

  pub record Publishing (k : N) (w f : ℕ) : Type 0 where
    pub own : IsOwn w
    pub named : n ≡ naming f
    pub beside : Beside turns v i m n k
    pub then : after ≡ with_mark v.note k w (Names f)

  pub record Clearing (k : N) (w : ℕ) : Type 0 where
    pub own : IsOwn w
    pub blank : n ≡ 0
    pub beside : Beside turns v i m n k
    pub then : after ≡ with_mark v.note k w Blank

  -- the frame is in, so the hazard word that was written last pins it
  pub record Validating (k : N) (f g : ℕ) : Type 0 where
    pub state : IsState f
    pub found : m ≡ filled g
    pub same : n ≡ m
    pub named : Marks v.note v.note.last_word (Names f)
    pub beside : Beside turns v i m n k
    pub then : after ≡ with_mark v.note k v.note.last_word (Pins f g)

  -- a load that tells the law of the pieces alone
  pub record Looking (k : N) : Type 0 where
    pub same : n ≡ m
    pub beside : Beside turns v i m n k
    pub then : after ≡ with_note v.note k

  pub record Locking (k : N) (f g : ℕ) : Type 0 where
    pub state : IsState f
    pub found : m ≡ filled g
    pub now : n ≡ locked g
    pub beside : Beside turns v i m n k
    pub then : after ≡ with_lock v.note k f (Locks g 0)

  -- the word does not name the frame that was locked last, of which so many words were scanned clear
  pub record Scanning (k : N) (g c d place : ℕ) : Type 0 where
    pub lock : HasLock v.note v.note.last_frame (Locks g c)
    pub range : place < 5 * v.note.shape.seats
    pub at : i ≡ v.note.shape.frames + place
    pub same : n ≡ m
    pub other : m ≢ naming v.note.last_frame
    pub count : scanned place c d
    pub beside : Beside turns v i m n k
    pub then : after ≡ with_lock v.note k v.note.last_frame (Locks g d)

  pub record Unlocking (k : N) (f g c : ℕ) : Type 0 where
    pub lock : HasLock v.note f (Locks g c)
    pub at : i ≡ f
    pub now : n ≡ filled g
    pub beside : Beside turns v i m n k
    pub then : after ≡ with_lock v.note k f Open

  -- every hazard word was scanned clear
  pub record Freeing (k : N) (f g : ℕ) : Type 0 where
    pub lock : HasLock v.note f (Locks g (5 * v.note.shape.seats))
    pub at : i ≡ f
    pub now : n ≡ empty (suc g)
    pub beside : Beside turns v i m n k
    pub then : after ≡ with_lock v.note k f Open

  pub record Filling (k : N) (f g : ℕ) : Type 0 where
    pub state : IsState f
    pub found : m ≡ empty g
    pub now : n ≡ filled g
    pub beside : Beside turns v i m n k
    pub then : after ≡ with_lock v.note k f Open

module _ {N : Type 0} (turns : Noted N → ℕ → ℕ → ℕ → N → Type 0) where
  -- the kinds as relations of a step alone
  abbrev pub publishing : Noted (Hazards N) → ℕ → ℕ → ℕ → Hazards N → Type 0
  publishing v i m n after = (k : N) × (w : ℕ) × (f : ℕ) × Publishing turns v i m n after k w f

  abbrev pub clearing : Noted (Hazards N) → ℕ → ℕ → ℕ → Hazards N → Type 0
  clearing v i m n after = (k : N) × (w : ℕ) × Clearing turns v i m n after k w

  abbrev pub looking : Noted (Hazards N) → ℕ → ℕ → ℕ → Hazards N → Type 0
  looking v i m n after = (k : N) × Looking turns v i m n after k

  abbrev pub validating : Noted (Hazards N) → ℕ → ℕ → ℕ → Hazards N → Type 0
  validating v i m n after = ((k : N) × (f : ℕ) × (g : ℕ) × Validating turns v i m n after k f g) ⊎ (((g : ℕ) → m ≢ filled g) × looking v i m n after)

  abbrev pub locking : Noted (Hazards N) → ℕ → ℕ → ℕ → Hazards N → Type 0
  locking v i m n after = ((k : N) × (f : ℕ) × (g : ℕ) × Locking turns v i m n after k f g) ⊎ looking v i m n after

  abbrev pub scanning : Noted (Hazards N) → ℕ → ℕ → ℕ → Hazards N → Type 0
  scanning v i m n after = ((k : N) × (g : ℕ) × (c : ℕ) × (d : ℕ) × (place : ℕ) × Scanning turns v i m n after k g c d place)
      ⊎ ((m ≡ naming v.note.last_frame) × looking v i m n after)

  abbrev pub unlocking : Noted (Hazards N) → ℕ → ℕ → ℕ → Hazards N → Type 0
  unlocking v i m n after = (k : N) × (f : ℕ) × (g : ℕ) × (c : ℕ) × Unlocking turns v i m n after k f g c

  abbrev pub freeing : Noted (Hazards N) → ℕ → ℕ → ℕ → Hazards N → Type 0
  freeing v i m n after = (k : N) × (f : ℕ) × (g : ℕ) × Freeing turns v i m n after k f g

  abbrev pub filling : Noted (Hazards N) → ℕ → ℕ → ℕ → Hazards N → Type 0
  filling v i m n after = (k : N) × (f : ℕ) × (g : ℕ) × Filling turns v i m n after k f g
