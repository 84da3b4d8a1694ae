-- What a reader tells of the lines that it was given.
use Rattle.std.specs.Prelude.{◌≡◌, ℕ, ◌-◌, ◌^◌, min, List, [], ◌∷◌, length, Option, Some, None, ◌<◌, Bool, not, ◌==◌, true}
use Rattle.std.specs.List.{AllByRecursion, list_all}
use Rattle.item.specs.declared.formats.Formats.{Formats}
use Rattle.dump_text.specs.Grammar.{Dump, Row}
use Rattle.dump_text.specs.Items.{HasFormat}
use Rattle.dump_text.specs.Lines.{Takes}
use Rattle.dump_text.specs.declared.reader.Table.{Table}
use Rattle.dump_text.specs.declared.reader.Step.{Step}
use Rattle.dump_text.specs.declared.reader.Step.TheVariants as step
use Rattle.dump_text.specs.declared.reader.Next.{Next}
use Rattle.dump_text.specs.declared.reader.Next.TheVariants as next
use Rattle.dump_text.specs.declared.reader.DumpReader.{DumpReader}

-- lines, one after the other, and what is said of each
abbrev pub Runs : Next → List (List ℕ) → Next → List Step → Type 0
Runs at [] to said = (to ≡ at) × (said ≡ [])
Runs at (line ∷ lines) to said = (mid : Next) × (first : Step) × (others : List Step) × Takes at line mid first × Runs mid lines to others × (said ≡ first ∷ others)

-- a reader was given these lines, and said this of each
pub record HasRead (lines : List (List ℕ)) (reader : DumpReader) (said : List Step) : Type 0 where
  pub ran : Runs next.Title lines reader.next said
  pub counted : reader.lines ≡ min (length lines) (2 ^ 64 - 1)

-- the rows that were told
abbrev pub rows_of : List Step → List Row
rows_of [] = []
rows_of (step.Row key value ∷ said) = (key, value) ∷ rows_of said
rows_of (step.More ∷ said) = rows_of said
rows_of (step.Key ∷ said) = rows_of said
rows_of (step.Table table ∷ said) = rows_of said

-- the table that was told first
abbrev pub table_of : List Step → Option Table
table_of [] = None
table_of (step.Table table ∷ said) = Some table
table_of (step.More ∷ said) = table_of said
table_of (step.Key ∷ said) = table_of said
table_of (step.Row key value ∷ said) = table_of said

-- what was said tells the dump's table and its rows, in order
pub record Tells (dump : Dump) (said : List Step) : Type 0 where
  pub table : table_of said ≡ Some (record { name = dump.name; formats = dump.formats })
  pub rows : rows_of said ≡ dump.rows

-- ---- what is written

abbrev pub AreBytes : List ℕ → Type 0
AreBytes item = AllByRecursion (λ b. b < 256) item

-- a row that a table of the formats may have
abbrev pub IsRowOf : Formats → Row → Type 0
IsRowOf formats row = AreBytes row.0 × AreBytes row.1 × HasFormat formats.key row.0 × HasFormat formats.value row.1

abbrev pub is_of_line : ℕ → Bool
is_of_line b = not (b == 10)

-- a line has no newline in it
abbrev pub IsOneLine : List ℕ → Type 0
IsOneLine line = list_all is_of_line line ≡ true
