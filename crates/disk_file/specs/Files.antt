-- What a call says of the bytes of a file, where they are told. A file that does not tell them has
-- None, before a call and after it.
use Rattle.std.specs.Prelude.{◌≡◌, ℕ, ◌+◌, ◌≤◌, max, List, length, take, drop, Option, Some, None}
use Rattle.disk_model.specs.Disk.{put}

-- a disk on a file: the bytes of the file, those of them that a crash leaves, the place that it was
-- told, and how often it has failed
pub record FileState : Type 0 where
  pub content : Option (List ℕ)
  pub synced : Option (List ℕ)
  pub home : Option (List ℕ)
  pub failures : ℕ

-- what the file that there may be tells
abbrev pub told_by : {F : Type 0} → (F → Option (List ℕ)) → Option F → Option (List ℕ)
told_by tells None = None
told_by tells (Some file) = tells file

-- the bytes are so many
abbrev pub HasLength : Option (List ℕ) → ℕ → Type 0
HasLength None n = Unit {0}
HasLength (Some bytes) n = n ≡ length bytes

-- the length that there may be is that of the bytes
abbrev pub IsLength : Option ℕ → Option (List ℕ) → Type 0
IsLength None content = Unit {0}
IsLength (Some n) content = HasLength content n

-- the length after a write of n bytes at an offset, where it is known
abbrev pub SizeAfter : Option ℕ → ℕ → ℕ → Option ℕ → Type 0
SizeAfter size at n None = Unit {0}
SizeAfter None at n (Some after) = ⊥
SizeAfter (Some size) at n (Some after) = (at ≤ size) × (after ≡ max size (at + n))

-- a buffer of m bytes was filled with those at an offset
abbrev pub Filled : Option (List ℕ) → ℕ → ℕ → List ℕ → Type 0
Filled None at m buffer = Unit {0}
Filled (Some bytes) at m buffer = buffer ≡ take m (drop at bytes)

-- these bytes stand at an offset, over those that were there; the offset is at most the old end
abbrev pub Wrote : Option (List ℕ) → Option (List ℕ) → ℕ → List ℕ → Type 0
Wrote None now at bytes = now ≡ None
Wrote (Some before) now at bytes = at ≤ length before → now ≡ Some (put before at bytes)

-- a crash leaves these bytes
abbrev pub Leaves : Option (List ℕ) → Option (List ℕ) → Type 0
Leaves None synced = Unit {0}
Leaves (Some bytes) synced = synced ≡ Some bytes

-- the bytes stay
abbrev pub Stays : Option (List ℕ) → Option (List ℕ) → Type 0
Stays None now = now ≡ None
Stays (Some before) now = now ≡ Some before
