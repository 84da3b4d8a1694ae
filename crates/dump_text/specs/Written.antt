-- What is written of a dump.
use Rattle.std.specs.Prelude.{◌≡◌, ℕ, List, [], ◌∷◌, ◌++◌, codes}
use Rattle.std.specs.List.{flat_map}
use Rattle.item.specs.declared.formats.Format.{Format}
use Rattle.item.specs.declared.formats.Format.TheVariants.{S, U}
use Rattle.item.specs.declared.formats.Formats.{Formats}
use Rattle.dump_text.specs.Items.{item_line}
use Rattle.dump_text.specs.declared.form.Form.{Form}
use Rattle.dump_text.specs.declared.form.Form.TheVariants.{Print, Hex}

abbrev pub form_line : Form → List ℕ
form_line Print = codes "Format=print"
form_line Hex = codes "Format=hex"

abbrev pub format_word : Format → List ℕ
format_word S = codes "S"
format_word U = codes "u"

abbrev pub config_line : Formats → List ℕ
config_line formats = codes "key_format=" ++ format_word formats.key ++ codes ",value_format=" ++ format_word formats.value

-- the six lines before the rows
abbrev pub head_lines : Form → List ℕ → Formats → List (List ℕ)
head_lines form name formats =
    codes "WiredTiger Dump (row store 1)" ∷ form_line form ∷ codes "Header" ∷ (codes "table:" ++ name) ∷ config_line formats ∷ codes "Data" ∷ []

-- a key's line and its value's
abbrev pub row_lines : Form → List ℕ × List ℕ → List (List ℕ)
row_lines form row = item_line form row.0 ∷ item_line form row.1 ∷ []

abbrev pub dump_lines : Form → List ℕ → Formats → List (List ℕ × List ℕ) → List (List ℕ)
dump_lines form name formats rows = head_lines form name formats ++ flat_map (row_lines form) rows

-- lines, each with a newline behind it
abbrev pub text_of : List (List ℕ) → List ℕ
text_of [] = []
text_of (line ∷ lines) = line ++ 10 ∷ text_of lines

-- a text begins with another one
abbrev pub HasMore : List ℕ → List ℕ → Type 0
HasMore front text = (more : List ℕ) × (text ≡ front ++ more)
