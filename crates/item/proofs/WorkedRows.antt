-- Texts of items, written out.
use Rattle.std.proofs.Common.{◌≡◌, refl, [], ◌∷◌}
use Rattle.std.specs.Prelude.{Some, None}
use Rattle.item.specs.Escapes.{escaped, unescaped}

-- a letter, a backslash and a zero byte
mixed : escaped (107 ∷ 92 ∷ 0 ∷ []) ≡ 107 ∷ 92 ∷ 92 ∷ 92 ∷ 48 ∷ 48 ∷ []
mixed = refl

-- a newline and byte 0xff
hidden : escaped (10 ∷ 255 ∷ []) ≡ 92 ∷ 48 ∷ 97 ∷ 92 ∷ 102 ∷ 102 ∷ []
hidden = refl

-- digits of either case, and a byte that no escape writes so
read : unescaped (92 ∷ 65 ∷ 98 ∷ 200 ∷ []) ≡ Some (171 ∷ 200 ∷ [])
read = refl

-- a newline, a lone backslash, one digit alone
no-newline : unescaped (97 ∷ 10 ∷ []) ≡ None
no-newline = refl

no-end : unescaped (97 ∷ 92 ∷ []) ≡ None
no-end = refl

no-digit : unescaped (92 ∷ 48 ∷ []) ≡ None
no-digit = refl
