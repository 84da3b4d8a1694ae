-- The grammar of a dump: which lines tell of which table and rows.
use Rattle.std.specs.Prelude.{◌≡◌, ◌≢◌, ◌⊎◌, ℕ, List, [], ◌∷◌, ◌++◌, codes}
use Rattle.std.specs.List.{AllByRecursion}
use Rattle.item.specs.declared.formats.Formats.{Formats}
use Rattle.config_text.specs.Items.{NamesFormats}
use Rattle.dump_text.specs.Items.{IsItemLine}
use Rattle.dump_text.specs.Written.{form_line}
use Rattle.dump_text.specs.Lines.{IsTitle, NamesTable, NamesNone}
use Rattle.dump_text.specs.declared.form.Form.{Form}

-- a key and a value
abbrev pub Row : Type 0
Row = List ℕ × List ℕ

-- what a dump tells
pub record Dump : Type 0 where
  pub form : Form
  pub name : List ℕ
  pub formats : Formats
  pub rows : List Row

-- two lines
abbrev pub Pair : Type 0
Pair = List ℕ × List ℕ

abbrev pub pair_lines : List Pair → List (List ℕ)
pair_lines [] = []
pair_lines (pair ∷ pairs) = pair.0 ∷ pair.1 ∷ pair_lines pairs

-- the line before the rows does not stand in its first line's place
abbrev pub IsBeforeData : Pair → Type 0
IsBeforeData pair = pair.0 ≢ codes "Data"

-- the first pair that is of a table names this one, and its configuration these formats
abbrev pub Counts : List Pair → List ℕ → Formats → Type 0
Counts [] name formats = ⊥
Counts (pair ∷ pairs) name formats =
    (NamesTable name pair.0 × NamesFormats pair.1 formats × AllByRecursion IsBeforeData pairs)
    ⊎ (IsBeforeData pair × NamesNone pair.0 × Counts pairs name formats)

-- a line for each key and one for its value
abbrev pub AreRows : Form → Formats → List Row → List (List ℕ) → Type 0
AreRows form formats [] lines = lines ≡ []
AreRows form formats (row ∷ rows) lines =
    (key value : List ℕ) × (rest : List (List ℕ)) × IsItemLine form formats.key row.0 key × IsItemLine form formats.value row.1 value × (lines ≡ key ∷ value ∷ rest)
    × AreRows form formats rows rest

-- lines, without their newlines, are a whole dump that tells this
abbrev pub IsDump : Dump → List (List ℕ) → Type 0
IsDump dump lines =
    (title : List ℕ) × (pairs : List Pair) × (rows : List (List ℕ)) × IsTitle title × Counts pairs dump.name dump.formats × AreRows dump.form dump.formats dump.rows rows
    × (lines ≡ title ∷ form_line dump.form ∷ codes "Header" ∷ (pair_lines pairs ++ codes "Data" ∷ rows))
