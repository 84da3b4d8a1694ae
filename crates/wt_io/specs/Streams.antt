-- What a source gives and a sink takes. A source tells the bytes that are left, and a sink those
-- that it has taken; where one does not tell them, it is None, before a call and after it.
use Rattle.std.specs.Prelude.{◌≡◌, ℕ, ◌≤◌, ◌<◌, List, [], ◌++◌, length, take, Option, Some, None}

-- these bytes stood first among those that were left, and the others are left now
abbrev pub Gave : Option (List ℕ) → Option (List ℕ) → List ℕ → Type 0
Gave None now bytes = now ≡ None
Gave (Some before) now bytes = (rest : List ℕ) × (now ≡ Some rest) × (before ≡ bytes ++ rest)

-- no byte is left
abbrev pub AtEnd : Option (List ℕ) → Type 0
AtEnd None = Unit {0}
AtEnd (Some left) = left ≡ []

-- these bytes now stand behind those that were taken before
abbrev pub Took : Option (List ℕ) → Option (List ℕ) → List ℕ → Type 0
Took None now bytes = now ≡ None
Took (Some before) now bytes = now ≡ Some (before ++ bytes)

-- a front of these bytes now stands behind those that were taken before
abbrev pub TookFront : Option (List ℕ) → Option (List ℕ) → List ℕ → Type 0
TookFront before now bytes = (n : ℕ) × (n ≤ length bytes) × Took before now (take n bytes)

-- a front that is not all of these bytes now stands behind those that were taken before
abbrev pub TookPart : Option (List ℕ) → Option (List ℕ) → List ℕ → Type 0
TookPart before now bytes = (n : ℕ) × (n < length bytes) × Took before now (take n bytes)
