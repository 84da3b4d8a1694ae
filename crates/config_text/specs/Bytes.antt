-- The bytes of a configuration text.
use Rattle.std.specs.Prelude.{ℕ, Bool, ◌&&◌, not, ◌==◌}

-- neither a double quote nor a round or square bracket
abbrev pub is_plain : ℕ → Bool
is_plain b = not (b == 34) && (not (b == 40) && (not (b == 41) && (not (b == 91) && not (b == 93))))

-- plain, and no comma: it may stand in a bare value
abbrev pub is_bare : ℕ → Bool
is_bare b = is_plain b && not (b == 44)

-- bare, and no equals sign: it may stand in a key
abbrev pub is_of_key : ℕ → Bool
is_of_key b = is_bare b && not (b == 61)

-- no double quote: it may stand between quotes
abbrev pub is_quotable : ℕ → Bool
is_quotable b = not (b == 34)
