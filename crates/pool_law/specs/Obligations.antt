-- What a law proves of itself: that each step which it allows keeps what holds between any two steps.
use Rattle.std.specs.Prelude.{◌≡◌, ℕ, List, ◌∷◌, slice_index}
use mathlib.Core.Option.{some}
use lib.ListN.{get_elem?}
use Rattle.pool_law.specs.declared.part.Part.{Part}
use Rattle.pool_law.specs.Whole.{Noted, part_at, Fits, Whole, IsFree, IsOnly, latched, put, stepped}

module _ {H F N : Type 0} (joint : Whole H F N → Type 0) where
  -- A seat that may take a free piece has a note then, of what it learns, with which the law holds
  abbrev pub LatchKeeps : (Noted N → ℕ → Type 0) → (Noted N → ℕ → Part H F → N → Type 0) → Type 0
  LatchKeeps may told = (x : Whole H F N) (id : ℕ) (v : Noted N) (k : ℕ)
      → joint x → get_elem? x.seats id ≡ some v → may v k → Fits k (part_at x.hub x.frames k) → IsFree k x
      → (n : N) × told v k (part_at x.hub x.frames k) n × joint (latched x id v k n)

  -- A seat that holds a piece, as the only one, and took it last, may put it back as it is allowed to
  abbrev pub PutKeeps : (Noted N → ℕ → Part H F → Part H F → N → Type 0) → Type 0
  PutKeeps puts = (x : Whole H F N) (id : ℕ) (v : Noted N) (k : ℕ) (rest : List ℕ) (y : Part H F) (n : N)
      → joint x → get_elem? x.seats id ≡ some v → v.held ≡ k ∷ rest → IsOnly id k x
      → Fits k (part_at x.hub x.frames k) → Fits k y → puts v k (part_at x.hub x.frames k) y n
      → joint (put x id rest k y n)

  -- A seat finds in each further word what it may find there
  abbrev pub FindHolds : (Noted N → ℕ → ℕ → Type 0) → Type 0
  FindHolds finds = (x : Whole H F N) (id : ℕ) (v : Noted N) (i : ℕ)
      → joint x → get_elem? x.seats id ≡ some v → finds v i (slice_index x.words i)

  -- A seat may turn a further word from what it is, as it is allowed to
  abbrev pub TurnKeeps : (Noted N → ℕ → ℕ → ℕ → N → Type 0) → Type 0
  TurnKeeps turns = (x : Whole H F N) (id : ℕ) (v : Noted N) (i m : ℕ) (n : N)
      → joint x → get_elem? x.seats id ≡ some v → turns v i (slice_index x.words i) m n
      → joint (stepped x id v.held i m n)

-- each of the few steps is one of all
abbrev pub Allowed : {N : Type 0} → (Noted N → ℕ → ℕ → ℕ → N → Type 0) → (Noted N → ℕ → ℕ → ℕ → N → Type 0) → Type 0
Allowed {N} all few = (v : Noted N) (i m n : ℕ) (k : N) → few v i m n k → all v i m n k
