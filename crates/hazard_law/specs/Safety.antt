-- What holds of the words between any two steps, and which steps there are.
use Rattle.std.specs.Prelude.{◌≡◌, ◌≢◌, ◌⊎◌, ℕ, suc, ◌+◌, ◌*◌, ◌<◌, List, map, length, replicate, slice_index, slice_set}
use mathlib.Core.Option.{some}
use lib.ListN.{get_elem?}
use Rattle.pool_law.specs.declared.part.Part.{Part}
use Rattle.pool_law.specs.declared.shape.Shape.{Shape}
use Rattle.pool_law.specs.Whole.{Noted, noted, Whole, whole}
use Rattle.hazard_law.specs.declared.known.Hazards.{Hazards}
use Rattle.hazard_law.specs.declared.known.Mark.{Mark}
use Rattle.hazard_law.specs.declared.known.Mark.TheVariants.{Blank, Names, Pins}
use Rattle.hazard_law.specs.declared.known.Lock.{Lock}
use Rattle.hazard_law.specs.declared.known.Lock.TheVariants.{Open, Locks}
use Rattle.hazard_law.specs.Words.{empty, filled, locked, hazard_place, hazard_word, naming}

module _ {N : Type 0} where
  -- how a seat begins: its words name nothing, and it has locked nothing
  abbrev pub beginning : (Shape → ℕ → N) → Shape → ℕ → Hazards N
  beginning start shape j = record {
    note = start shape j;
    seat = j;
    shape = shape;
    marks = replicate 5 Blank;
    locks = replicate shape.frames Open;
    last_word = 0;
    last_frame = 0;
  }

  -- what the seat knows in the law of the pieces
  abbrev pub inner : Noted (Hazards N) → Noted N
  inner v = noted v.note.note v.held

  -- what a seat knows of its hazard word w, and of the frame f
  abbrev pub Marks : Hazards N → ℕ → Mark → Type 0
  Marks h w m = get_elem? h.marks w ≡ some m

  abbrev pub HasLock : Hazards N → ℕ → Lock → Type 0
  HasLock h f l = get_elem? h.locks f ≡ some l

  -- the same with another note, another mark of the word w, another lock of the frame f
  abbrev pub with_note : Hazards N → N → Hazards N
  with_note h n = record { note = n; seat = h.seat; shape = h.shape; marks = h.marks; locks = h.locks; last_word = h.last_word; last_frame = h.last_frame }

  abbrev pub with_mark : Hazards N → N → ℕ → Mark → Hazards N
  with_mark h n w m =
      record { note = n; seat = h.seat; shape = h.shape; marks = slice_set h.marks w m; locks = h.locks; last_word = w; last_frame = h.last_frame }

  abbrev pub with_lock : Hazards N → N → ℕ → Lock → Hazards N
  with_lock h n f l =
      record { note = n; seat = h.seat; shape = h.shape; marks = h.marks; locks = slice_set h.locks f l; last_word = h.last_word; last_frame = f }

  -- What holds of the words, for so many frames
  pub record Safe (frames : ℕ) (words : List ℕ) (seats : List (Noted (Hazards N))) : Type 0 where
    -- there is a state word for each frame, and there are five hazard words for each seat
    pub wide : length words ≡ frames + 5 * length seats
    -- each seat knows which it is, and how large the table is
    pub numbered : (j : ℕ) (v : Noted (Hazards N)) → get_elem? seats j ≡ some v
        → (v.note.seat ≡ j) × (v.note.shape.frames ≡ frames) × (v.note.shape.seats ≡ length seats) × (length v.note.marks ≡ 5) × (length v.note.locks ≡ frames)
    -- a hazard word names the frame that its seat published in it
    pub names : (j w f : ℕ) (v : Noted (Hazards N)) → get_elem? seats j ≡ some v → Marks v.note w (Names f)
        → slice_index words (hazard_word frames j w) ≡ naming f
    -- a pinned frame is named, and is in or locked, at the generation of the pin
    pub pinned : (j w f g : ℕ) (v : Noted (Hazards N)) → get_elem? seats j ≡ some v → Marks v.note w (Pins f g)
        → (f < frames) × (slice_index words (hazard_word frames j w) ≡ naming f) × ((slice_index words f ≡ filled g) ⊎ (slice_index words f ≡ locked g))
    -- a frame that a seat locked is locked, at that generation
    pub locks : (j f g c : ℕ) (v : Noted (Hazards N)) → get_elem? seats j ≡ some v → HasLock v.note f (Locks g c)
        → (f < frames) × (slice_index words f ≡ locked g)
    -- and no other seat locked it
    pub alone : (i j f g h c d : ℕ) (v u : Noted (Hazards N)) → get_elem? seats i ≡ some v → get_elem? seats j ≡ some u
        → HasLock v.note f (Locks g c) → HasLock u.note f (Locks h d) → i ≡ j
    -- no hazard word that was scanned clear since pins the frame
    pub clear : (i j w f g c : ℕ) (v u : Noted (Hazards N)) → get_elem? seats i ≡ some v → get_elem? seats j ≡ some u
        → HasLock v.note f (Locks g c) → hazard_place j w < c → ¬ Marks u.note w (Pins f g)

module _ {H F N : Type 0} (joint : Whole H F N → Type 0) where
  abbrev pub inner_whole : Whole H F (Hazards N) → Whole H F N
  inner_whole x = whole x.words x.hub x.frames (map inner x.seats)

  -- what holds of the words, and what the law of the pieces says
  abbrev pub Both : Whole H F (Hazards N) → Type 0
  Both x = Safe (length x.frames) x.words x.seats × joint (inner_whole x)

module _ {N : Type 0} (finds : Noted N → ℕ → ℕ → Type 0) where
  -- What a seat may find in the word i: what the law of the pieces says, and of what it knows
  pub record Finds (v : Noted (Hazards N)) (i r : ℕ) : Type 0 where
    pub beside : finds (inner v) i r
    pub pinned : (w f g : ℕ) → i ≡ f → Marks v.note w (Pins f g) → (r ≡ filled g) ⊎ (r ≡ locked g)
    pub locked_by : (f g c : ℕ) → i ≡ f → HasLock v.note f (Locks g c) → r ≡ locked g
    pub named : (w f : ℕ) → i ≡ hazard_word v.note.shape.frames v.note.seat w → Marks v.note w (Names f) → r ≡ naming f

-- the number of clear words after a scan of the word at this place
abbrev pub scanned : ℕ → ℕ → ℕ → Type 0
scanned place c d = ((place ≡ c) × (d ≡ suc c)) ⊎ ((place ≢ c) × (d ≡ c))

module _ {N : Type 0} (turns : Noted N → ℕ → ℕ → ℕ → N → Type 0) where
  -- the step that the law of the pieces sees
  abbrev pub Beside : Noted (Hazards N) → ℕ → ℕ → ℕ → N → Type 0
  Beside v i m n k = turns (inner v) i m n k

  -- A step on the word i, from m to n, with the note then
  pub data Turns (v : Noted (Hazards N)) (i m n : ℕ) (after : Hazards N) : Type 0 where
    -- a load that tells the law of the pieces alone
    looks : (k : N) → n ≡ m → Beside v i m n k → after ≡ with_note v.note k → Turns v i m n after
    -- the own hazard word w names the frame f
    publishes : (w f : ℕ) (k : N) → w < 5 → i ≡ hazard_word v.note.shape.frames v.note.seat w → n ≡ naming f → Beside v i m n k
        → after ≡ with_mark v.note k w (Names f) → Turns v i m n after
    -- the frame that the own hazard word w names is in, and is pinned
    validates : (w f g : ℕ) (k : N) → f < v.note.shape.frames → i ≡ f → m ≡ filled g → n ≡ m → Marks v.note w (Names f) → Beside v i m n k
        → after ≡ with_mark v.note k w (Pins f g) → Turns v i m n after
    -- the own hazard word w names nothing
    clears : (w : ℕ) (k : N) → w < 5 → i ≡ hazard_word v.note.shape.frames v.note.seat w → n ≡ 0 → Beside v i m n k
        → after ≡ with_mark v.note k w Blank → Turns v i m n after
    -- a frame that is in is locked
    locks_frame : (f g : ℕ) (k : N) → f < v.note.shape.frames → i ≡ f → m ≡ filled g → n ≡ locked g → Beside v i m n k
        → after ≡ with_lock v.note k f (Locks g 0) → Turns v i m n after
    -- a hazard word does not name the locked frame; it counts where it is the next one
    scans : (f g c d place : ℕ) (k : N) → HasLock v.note f (Locks g c) → place < 5 * v.note.shape.seats → i ≡ v.note.shape.frames + place → n ≡ m → m ≢ naming f
        → scanned place c d → Beside v i m n k → after ≡ with_lock v.note k f (Locks g d) → Turns v i m n after
    -- the own lock is given up
    unlocks : (f g c : ℕ) (k : N) → HasLock v.note f (Locks g c) → i ≡ f → n ≡ filled g → Beside v i m n k
        → after ≡ with_lock v.note k f Open → Turns v i m n after
    -- the locked frame is freed, once every hazard word was scanned clear
    frees : (f g : ℕ) (k : N) → HasLock v.note f (Locks g (5 * v.note.shape.seats)) → i ≡ f → n ≡ empty (suc g) → Beside v i m n k
        → after ≡ with_lock v.note k f Open → Turns v i m n after
    -- an empty frame is filled
    fills : (f g : ℕ) (k : N) → f < v.note.shape.frames → i ≡ f → m ≡ empty g → n ≡ filled g → Beside v i m n k
        → after ≡ with_lock v.note k f Open → Turns v i m n after

-- What the law of the pieces asks and tells, where a seat also knows the words: of these nothing changes
abbrev pub MayLatch : {N : Type 0} → (Noted N → ℕ → Type 0) → Noted (Hazards N) → ℕ → Type 0
MayLatch may v k = may (inner v) k

module _ {H F N : Type 0} where
  abbrev pub Told : (Noted N → ℕ → Part H F → N → Type 0) → Noted (Hazards N) → ℕ → Part H F → Hazards N → Type 0
  Told told v k p h = told (inner v) k p h.note × (h ≡ with_note v.note h.note)

  abbrev pub Puts : (Noted N → ℕ → Part H F → Part H F → N → Type 0) → Noted (Hazards N) → ℕ → Part H F → Part H F → Hazards N → Type 0
  Puts puts v k p y h = puts (inner v) k p y h.note × (h ≡ with_note v.note h.note)
