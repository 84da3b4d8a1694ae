-- Items as words.
use Rattle.std.specs.Prelude.{ℕ, ◌-◌, ◌&&◌, ◌==◌, nat_le, List, [], ◌∷◌, Option, Some, None, if◌then◌else◌}
use Rattle.std.specs.Str.{bytes_eq}
use Rattle.item.specs.Escapes.{unescaped}
use Rattle.item.specs.declared.formats.Format.{Format}
use Rattle.item.specs.declared.formats.Format.TheVariants.{S, U}

-- the item of a word: a backslash and a hyphen alone are the empty item, any other word is unescaped
abbrev pub item_of : List ℕ → Option (List ℕ)
item_of word = if bytes_eq word (92 ∷ 45 ∷ []) then Some [] else unescaped word

-- the format of a word
abbrev pub format_of : List ℕ → Option Format
format_of word = if bytes_eq word (83 ∷ []) then Some S else (if bytes_eq word (117 ∷ []) then Some U else None)

-- the cursor of a word, c0 to c3
abbrev pub cursor_of : List ℕ → Option ℕ
cursor_of [] = None
cursor_of (c ∷ []) = None
cursor_of (c ∷ (d ∷ [])) = if c == 99 && (nat_le 48 d && nat_le d 51) then Some (d - 48) else None
cursor_of (c ∷ (d ∷ (e ∷ rest))) = None
