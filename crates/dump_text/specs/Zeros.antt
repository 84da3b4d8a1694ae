-- Where an escape text has an escape, and whether bytes end with a zero.
use Rattle.std.specs.Prelude.{◌≡◌, ◌⊎◌, ℕ, Bool, ◌==◌, List, [], ◌∷◌}

-- a byte of an escape text that is not itself
abbrev pub IsStop : ℕ → Type 0
IsStop b = (b ≡ 92) ⊎ (b ≡ 10)

-- whether the last of bytes is a zero; of none, what was so before them
abbrev pub zero_behind : Bool → List ℕ → Bool
zero_behind before [] = before
zero_behind before (b ∷ bytes) = zero_behind (b == 0) bytes
