-- How far a text was read, and what is known of the table that it told.
use Rattle.std.specs.Prelude.{◌≡◌, ◌⊎◌, ◌↔◌, ◌+◌, ◌++◌, ℕ, List, [], ◌∷◌, length, Option, Some, None, Bool, true, false, IsTrue}
use Rattle.wt_code.specs.declared.refusals.Refusal.{Refusal}
use Rattle.wt_code.specs.declared.refusals.Refusal.TheVariants.{NoMemory, Invalid}
use Rattle.wt_code.specs.declared.refusals.Invalid.TheVariants.{Text}
use Rattle.item.specs.declared.formats.Format.{Format}
use Rattle.item.specs.declared.formats.Formats.{Formats}
use Rattle.dump_text.specs.Cuts.{lines_in}
use Rattle.dump_text.specs.Grammar.{Dump, IsDump}
use Rattle.dump_text.specs.Items.{WritesItem}
use Rattle.dump_text.specs.Runs.{Runs, HasRead, rows_of, table_of}
use Rattle.dump_text.specs.Texts.{GoesOn}
use Rattle.dump_text.specs.declared.form.Form.{Form}
use Rattle.dump_text.specs.declared.reader.DumpReader.{DumpReader}
use Rattle.dump_text.specs.declared.reader.Step.{Step}
use Rattle.dump_text.specs.declared.reader.Step.TheVariants as step
use Rattle.dump_text.specs.declared.reader.Next.{Next}
use Rattle.dump_text.specs.declared.reader.Next.TheVariants as next
use Rattle.dump_text.specs.declared.whole.Found.{Found}
use Rattle.dump_text.specs.declared.whole.Reading.{Reading}

-- what is next stands before the rows
abbrev pub IsHead : Next → Type 0
IsHead (next.Key form formats) = ⊥
IsHead (next.Value form formats key) = ⊥
IsHead _ = Unit {0}

-- the table was told, and the lines that were read since then and those that are left are behind the line `Data`
pub record IsFoundIn (f : Found) (said : List Step) (at : Next) (left : List (List ℕ)) : Type 0 where
  pub since : List (List ℕ)
  pub told : List Step
  pub lines : lines_in f.rows.now ≡ since ++ left
  pub ran : Runs (next.Key f.form f.table.formats) since at told
  pub table : table_of said ≡ Some f.table
  pub rows : rows_of said ≡ rows_of told

abbrev pub IsFound : Option Found → List Step → Next → List (List ℕ) → Type 0
IsFound None said at left = IsHead at × (table_of said ≡ None) × (rows_of said ≡ [])
IsFound (Some f) said at left = IsFoundIn f said at left

-- the line of a value is next among the rows, or that of a key
abbrev pub IsRowNext : (at_value : Bool) → Found → Next → Type 0
IsRowNext true f at = (key : List ℕ) × (at ≡ next.Value f.form f.table.formats key)
IsRowNext false f at = at ≡ next.Key f.form f.table.formats

-- what is next: before the rows, what is next to the reader
abbrev pub IsNext : Option Found → (at_value : Bool) → (head at : Next) → Type 0
IsNext None at_value head at = (at ≡ head) × (at_value ≡ false)
IsNext (Some f) at_value head at = IsRowNext at_value f at

-- a reader of so many lines
abbrev pub reader_at : ℕ → Next → DumpReader
reader_at lines at = record { lines = lines; next = at }

-- these lines were read, and those are left
pub record HasTaken (lines left : List (List ℕ)) (r : Reading) : Type 0 where
  pub said : List Step
  pub at : Next
  pub read : HasRead lines (reader_at r.reader.lines at) said
  pub found : IsFound r.found said at left
  pub stands : IsNext r.found r.at_value r.reader.next at

-- the format of the item that is next among the rows
abbrev pub format_next : (at_value : Bool) → Formats → Format
format_next true formats = formats.value
format_next false formats = formats.key

-- whether a line writes the item that is next; none before the rows
abbrev pub IsRowAnswer : Option Found → (at_value : Bool) → List ℕ → Option Bool → Type 0
IsRowAnswer None at_value line answer = answer ≡ None
IsRowAnswer (Some f) at_value line answer =
    (is : Bool) × (answer ≡ Some is) × (IsTrue is ↔ WritesItem f.form (format_next at_value f.table.formats) line)

-- a line's table is kept, with the form of its rows and the text behind the line
abbrev pub IsKept : Step → (behind : List ℕ) → (old new : Reading) → Type 0
IsKept (step.Table table) behind old new =
    (form : Form) (formats : Formats) → old.reader.next ≡ next.Key form formats
    → (f : Found) × (f.form ≡ form) × (f.table ≡ table) × (f.rows.now ≡ behind) × (new.reader ≡ old.reader) × (new.found ≡ Some f) × (new.at_value ≡ old.at_value)
IsKept step.More behind old new = new ≡ old
IsKept step.Key behind old new = new ≡ old
IsKept (step.Row key value) behind old new = new ≡ old

-- why the line behind these is refused: memory was too short, or no dump goes on with it
abbrev pub IsStop : (lines : List (List ℕ)) → (line : List ℕ) → Refusal → Type 0
IsStop lines line r = (r ≡ NoMemory) ⊎ ((r ≡ Invalid (Text (length lines + 1))) × GoesOn lines × (GoesOn (lines ++ line ∷ []) → ⊥))

-- the lines are no whole dump, but go on to be one
abbrev pub IsCutOff : List (List ℕ) → Refusal → Type 0
IsCutOff lines r = (r ≡ Invalid (Text (length lines + 1))) × GoesOn lines × ((dump : Dump) → IsDump dump lines → ⊥)
