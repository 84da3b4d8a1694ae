-- The rule of a table of latched pieces, and what each step tells.
-- The first words are the latches, one a slot: 0 is free, and 1 is held. The further words follow.
use Rattle.std.specs.Prelude.{◌≡◌, ◌⊎◌, ℕ, zero, suc, ◌+◌, ◌-◌, ◌<◌, ◌≤◌, true, false, List, [], ◌∷◌, ◌++◌, map, length, drop, slice_index}
use mathlib.Core.Option.{some}
use lib.ListN.{get_elem?}
use Rattle.atomic_table.specs.Table.{State, Me, Step}
use Rattle.pool_law.specs.declared.part.Part.{Part}
use Rattle.pool_law.specs.declared.shape.Shape.{Shape}
use Rattle.pool_law.specs.Whole.{Noted, noted, part_at, Fits, Whole, whole}
use Rattle.latch_table.specs.declared.view.View.{View}

abbrev pub number : {P : Type 0} → ℕ × P → ℕ
number x = x.0

module _ {H F N : Type 0} where
  abbrev pub known : View H F N → Noted N
  known v = noted v.note (map number v.held)

  -- the same seat, with another note and other pieces
  abbrev pub turned : View H F N → N → List (ℕ × Part H F) → View H F N
  turned v n held = record { note = n; held = held; seat = v.seat; made = v.made; shape = v.shape; gathered = v.gathered; spent = v.spent }

  -- a seat of this number in a table of this shape, which holds nothing and has made so many seats, itself among them
  abbrev pub newcomer : N → Shape → ℕ → ℕ → View H F N
  newcomer n shape seat made = record { note = n; held = []; seat = seat; made = made; shape = shape; gathered = []; spent = false }

  -- the seat j has x at the place a of what it holds
  abbrev pub Has : List (View H F N) → ℕ → ℕ → ℕ × Part H F → Type 0
  Has views j a x = (v : View H F N) × (get_elem? views j ≡ some v) × (get_elem? v.held a ≡ some x)

-- the seats that were made, those that still wait to be made, and those whose notes another one gathered
module _ {H F N : Type 0} (start : ℕ → N) (n : ℕ) where
  pub record Seated (views : List (View H F N)) (notes : List (Noted N)) : Type 0 where
    pub total : length notes ≡ n
    pub few : length views ≤ n
    pub made : (v : View H F N) → get_elem? views 0 ≡ some v → v.spent ≡ false → v.made ≡ length views
    pub numbered : (j : ℕ) (v : View H F N) → get_elem? views j ≡ some v → v.spent ≡ false → v.seat ≡ j
    pub idle : (j : ℕ) (v : View H F N) → get_elem? views j ≡ some v → v.spent ≡ true → v.held ≡ []
    pub waiting : (j : ℕ) → length views ≤ j → j < n → get_elem? notes j ≡ some (noted (start j) [])
    pub gathered : (i : ℕ) (v : View H F N) (a j : ℕ) (m : N) → get_elem? views i ≡ some v → get_elem? v.gathered a ≡ some (j, m)
        → (j < length views) × (get_elem? notes j ≡ some (noted m [])) × ((w : View H F N) → get_elem? views j ≡ some w → w.spent ≡ true)

-- each seat from the first on, with the note that it begins with
abbrev pub starts : {N : Type 0} → (ℕ → N) → ℕ → ℕ → List (Noted N)
starts start j zero = []
starts start j (suc n) = noted (start j) [] ∷ starts start (suc j) n

module _ {H F N : Type 0} (start : ℕ → N) (n : ℕ) (joint : Whole H F N → Type 0) where
  pub record Stands (s : State (Part H F) (View H F N)) : Type 0 where
    pub hub : H
    pub frames : List F
    pub notes : List (Noted N)
    pub count : length s.homes ≡ suc (length frames)
    pub wide : length s.homes ≤ length s.words
    pub bits : (k : ℕ) → k < length s.homes → slice_index s.words k < 2
    pub home : (k : ℕ) → k < length s.homes → slice_index s.words k ≡ 0 → get_elem? s.homes k ≡ some (some (part_at hub frames k))
    pub out : (j a k : ℕ) (p : Part H F) → Has s.views j a (k, p) → (k < length s.homes) × (slice_index s.words k ≡ 1) × (p ≡ part_at hub frames k)
    pub one : (i j a b k : ℕ) (p q : Part H F) → Has s.views i a (k, p) → Has s.views j b (k, q) → (i ≡ j) × (a ≡ b)
    pub gone : (k : ℕ) → k < length s.homes → slice_index s.words k ≡ 1 → (j : ℕ) × (a : ℕ) × (p : Part H F) × Has s.views j a (k, p)
    pub live : (j : ℕ) (v : View H F N) → get_elem? s.views j ≡ some v → v.spent ≡ false → get_elem? notes j ≡ some (known v)
    pub owner : (j : ℕ) (w : Noted N) → get_elem? notes j ≡ some w → (w.held ≡ []) ⊎ ((v : View H F N) × (get_elem? s.views j ≡ some v) × (known v ≡ w))
    pub seated : Seated start n s.views notes
    pub kept : joint (whole (drop (length s.homes) s.words) hub frames notes)

module _ {H F N : Type 0} (told : Noted N → ℕ → Part H F → N → Type 0) where
  -- the latch was free, and the seat has taken the slot; or it was held, and nothing changed
  abbrev pub took : Step (Part H F) → Me (Part H F) (View H F N) → ℕ → Me (Part H F) (View H F N) → Type 0
  took st m r m' =
      (r ≡ 0 → (x : Part H F) × (n : N) × (m' ≡ (turned m.0 n ((st.word, x) ∷ m.0.held), (st.word, x) ∷ m.1)) × Fits st.word x × told (known m.0) st.word x n)
      × (¬ (r ≡ 0) → (m' ≡ m) × (r ≡ 1))

module _ {H F N : Type 0} (puts : Noted N → ℕ → Part H F → Part H F → N → Type 0) where
  -- the seat took the slot last, and may put it back as it lies there
  abbrev pub MayGive : ℕ → Me (Part H F) (View H F N) → Type 0
  MayGive at m = (x : Part H F) × (y : Part H F) × (held : List (ℕ × Part H F)) × (out : List (ℕ × Part H F)) × (n : N)
      × (m.0.held ≡ (at, x) ∷ held) × (m.1 ≡ (at, y) ∷ out) × Fits at y × puts (known m.0) at x y n

  -- the piece went home as it lay in the slot
  abbrev pub gave : Step (Part H F) → Me (Part H F) (View H F N) → ℕ → Me (Part H F) (View H F N) → Type 0
  gave st m r m' =
      (x y : Part H F) (held : List (ℕ × Part H F)) (out : List (ℕ × Part H F)) → m.0.held ≡ (st.word, x) ∷ held → m.1 ≡ (st.word, y) ∷ out
      → (n : N) × (m' ≡ (turned m.0 n held, out)) × puts (known m.0) st.word x y n

module _ {H F N : Type 0} (finds : Noted N → ℕ → ℕ → Type 0) (turns : Noted N → ℕ → ℕ → ℕ → N → Type 0) where
  -- the further word went from r, which the seat could find there, to what `after` gives, and the note followed
  abbrev pub moved : (Step (Part H F) → ℕ → ℕ) → Step (Part H F) → Me (Part H F) (View H F N) → ℕ → Me (Part H F) (View H F N) → Type 0
  moved after st m r m' = (n : N) × (m' ≡ (turned m.0 n m.0.held, m.1)) × finds (known m.0) (st.word - st.slots) r
      × turns (known m.0) (st.word - st.slots) r (after st r) n

-- how the first seat makes another, and how a seat takes in another at the end
module _ {H F N : Type 0} where
  abbrev pub maker : View H F N → View H F N
  maker v = record { note = v.note; held = v.held; seat = v.seat; made = v.made + 1; shape = v.shape; gathered = v.gathered; spent = v.spent }

  abbrev pub gathering : View H F N → View H F N → View H F N
  gathering v w = record {
    note = v.note;
    held = v.held;
    seat = v.seat;
    made = v.made;
    shape = v.shape;
    gathered = (w.seat, w.note) ∷ (w.gathered ++ v.gathered);
    spent = v.spent;
  }

  abbrev pub next_seat : (ℕ → N) → View H F N → View H F N
  next_seat start v = newcomer (start v.made) v.shape v.made 0

  abbrev pub gone_seat : N → View H F N
  gone_seat n = record { note = n; held = []; seat = 0; made = 0; shape = record { frames = 0; seats = 0 }; gathered = []; spent = true }
