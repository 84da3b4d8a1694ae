-- Items as a dump writes them.
use Rattle.std.specs.Prelude.{◌≡◌, ℕ, List, [], ◌∷◌, ◌++◌, Option, Some, None, Result, Ok, Err, option_map, option_and_then, ◌+◌, ◌*◌}
use Rattle.item.specs.declared.formats.Format.{Format}
use Rattle.item.specs.declared.formats.Format.TheVariants.{S, U}
use Rattle.item.specs.Escapes.{escaped, unescaped}
use Rattle.hex.specs.Hex.{encode_lower, decode_of, hex_digit_value}
use Rattle.hex.specs.declared.error.FromHexError.{FromHexError}
use Rattle.dump_text.specs.declared.form.Form.{Form}
use Rattle.dump_text.specs.declared.form.Form.TheVariants.{Print, Hex}

-- the line of an item
abbrev pub item_line : Form → List ℕ → List ℕ
item_line Print item = escaped item
item_line Hex item = encode_lower item

abbrev pub decoded : Result (List ℕ) FromHexError → Option (List ℕ)
decoded (Ok item) = Some item
decoded (Err e) = None

-- the item that a line writes; none where the line is no escape text, or no hexadecimal
abbrev pub item_on : Form → List ℕ → Option (List ℕ)
item_on Print line = unescaped line
item_on Hex line = decoded (decode_of line)

-- a text ends with a zero byte, bytes with any
abbrev pub HasFormat : Format → List ℕ → Type 0
HasFormat S item = (front : List ℕ) × (item ≡ front ++ 0 ∷ [])
HasFormat U item = Unit {0}

-- the line writes the item, which a table of the format may have
abbrev pub IsItemLine : Form → Format → List ℕ → List ℕ → Type 0
IsItemLine form format item line = (item_on form line ≡ Some item) × HasFormat format item

-- the line writes some item that a table of the format may have
abbrev pub WritesItem : Form → Format → List ℕ → Type 0
WritesItem form format line = (item : List ℕ) × IsItemLine form format item line

-- the byte of two hexadecimal digits
abbrev pub pair_of : ℕ → ℕ → Option ℕ
pair_of high low = option_and_then (λ h. option_map (λ l. h * 16 + l) (hex_digit_value low)) (hex_digit_value high)

-- the bytes of pairs of hexadecimal digits
abbrev pub pairs_of : List ℕ → Option (List ℕ)
pairs_of [] = Some []
pairs_of (digit ∷ []) = None
pairs_of (high ∷ (low ∷ rest)) = option_and_then (λ b. option_map (λ bytes. b ∷ bytes) (pairs_of rest)) (pair_of high low)
