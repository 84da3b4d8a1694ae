-- What a seat knows, as a rule sees it, and the pieces that it holds.
use Rattle.std.specs.Prelude.{◌≡◌, ℕ, zero, suc, List, ◌∷◌, slice_set}
use mathlib.Core.Option.{Option, none, some}
use lib.ListN.{get_elem?}
use Rattle.pool_law.specs.declared.part.Part.{Part}
use Rattle.pool_law.specs.declared.part.Part.TheVariants.{Hub, Frame, Gone}

-- a note, and the numbers of the pieces that the seat holds, the one taken last first: 0 is the hub, k + 1 the frame k
pub record Noted (N : Type 0) : Type 0 where
  pub note : N
  pub held : List ℕ

abbrev pub noted : {N : Type 0} → N → List ℕ → Noted N
noted n held = record { note = n; held = held }

module _ {H F : Type 0} where
  abbrev pub frame_or : Option F → Part H F
  frame_or none = Gone
  frame_or (some f) = Frame f

  -- the piece of number k
  abbrev pub part_at : H → List F → ℕ → Part H F
  part_at h fs zero = Hub h
  part_at h fs (suc k) = frame_or (get_elem? fs k)

  abbrev pub hub_after : H → ℕ → Part H F → H
  hub_after h zero (Hub g) = g
  hub_after h zero (Frame f) = h
  hub_after h zero Gone = h
  hub_after h (suc k) b = h

  abbrev pub frames_after : List F → ℕ → Part H F → List F
  frames_after fs zero b = fs
  frames_after fs (suc k) (Frame f) = slice_set fs k f
  frames_after fs (suc k) (Hub g) = fs
  frames_after fs (suc k) Gone = fs

  -- a body fits a number
  abbrev pub Fits : ℕ → Part H F → Type 0
  Fits zero (Hub h) = Unit {0}
  Fits zero (Frame f) = ⊥
  Fits zero Gone = ⊥
  Fits (suc k) (Frame f) = Unit {0}
  Fits (suc k) (Hub h) = ⊥
  Fits (suc k) Gone = ⊥

-- the hub, the frames, the further words, and what each seat knows
pub record Whole (H F N : Type 0) : Type 0 where
  pub words : List ℕ
  pub hub : H
  pub frames : List F
  pub seats : List (Noted N)

abbrev pub whole : {H F N : Type 0} → List ℕ → H → List F → List (Noted N) → Whole H F N
whole ws h fs ns = record { words = ws; hub = h; frames = fs; seats = ns }

-- k is among the numbers
abbrev pub Holds : ℕ → List ℕ → Type 0
Holds k ks = (a : ℕ) × (get_elem? ks a ≡ some k)

module _ {H F N : Type 0} where
  -- no seat holds the piece k
  abbrev pub IsFree : ℕ → Whole H F N → Type 0
  IsFree k x = (j : ℕ) (v : Noted N) → get_elem? x.seats j ≡ some v → ¬ Holds k v.held

  -- the seat holds the piece k, which it took last, once, and no other seat holds it
  abbrev pub IsOnly : ℕ → ℕ → Whole H F N → Type 0
  IsOnly id k x = (j a : ℕ) (w : Noted N) → get_elem? x.seats j ≡ some w → get_elem? w.held a ≡ some k → (j ≡ id) × (a ≡ 0)

  -- A seat latches the piece k
  abbrev pub latched : Whole H F N → ℕ → Noted N → ℕ → N → Whole H F N
  latched x id v k n = whole x.words x.hub x.frames (slice_set x.seats id (noted n (k ∷ v.held)))

  -- A seat puts the piece k, the one that it took last, back as y
  abbrev pub put : Whole H F N → ℕ → List ℕ → ℕ → Part H F → N → Whole H F N
  put x id rest k y n = whole x.words (hub_after x.hub k y) (frames_after x.frames k y) (slice_set x.seats id (noted n rest))

  -- A seat steps on a further word
  abbrev pub stepped : Whole H F N → ℕ → List ℕ → ℕ → ℕ → N → Whole H F N
  stepped x id held i m n = whole (slice_set x.words i m) x.hub x.frames (slice_set x.seats id (noted n held))
