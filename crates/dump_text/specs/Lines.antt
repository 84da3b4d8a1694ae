-- What a reader makes of each line.
use Rattle.std.specs.Prelude.{◌≡◌, ◌≢◌, ℕ, ◌+◌, ◌-◌, ◌^◌, ◌⊎◌, List, ◌++◌, Option, Some, None, codes, min}
use Rattle.item.specs.declared.formats.Formats.{Formats}
use Rattle.wt_code.specs.declared.refusals.Refusal.{Refusal}
use Rattle.wt_code.specs.declared.refusals.Refusal.TheVariants.{Invalid}
use Rattle.wt_code.specs.declared.refusals.Invalid.TheVariants.{Text}
use Rattle.config_text.specs.Items.{NamesFormats}
use Rattle.dump_text.specs.Items.{IsItemLine}
use Rattle.dump_text.specs.Written.{form_line}
use Rattle.dump_text.specs.declared.form.Form.{Form}
use Rattle.dump_text.specs.declared.reader.Table.{Table}
use Rattle.dump_text.specs.declared.reader.Step.{Step}
use Rattle.dump_text.specs.declared.reader.Step.TheVariants as step
use Rattle.dump_text.specs.declared.reader.Next.{Next}
use Rattle.dump_text.specs.declared.reader.Next.TheVariants as next
use Rattle.dump_text.specs.declared.reader.DumpReader.{DumpReader}

abbrev pub IsTitle : List ℕ → Type 0
IsTitle line = (rest : List ℕ) × (line ≡ codes "WiredTiger Dump" ++ rest)

-- the first line of a pair that is of the table of this name
abbrev pub NamesTable : List ℕ → List ℕ → Type 0
NamesTable name line = (line ≡ codes "table:" ++ name) ⊎ (line ≡ codes "file:" ++ name)

abbrev pub NamesNone : List ℕ → Type 0
NamesNone line = (name : List ℕ) → NamesTable name line → ⊥

-- the first line of a pair, or the line before the rows. Only the first pair that is of a table counts, and there has to be one
abbrev pub TakesPair : Form → Option Table → List ℕ → Next → Step → Type 0
TakesPair form (Some table) line to said =
    ((line ≡ codes "Data") × (to ≡ next.Key form table.formats) × (said ≡ step.Table table))
    ⊎ ((line ≢ codes "Data") × (to ≡ next.Skipped form (Some table)) × (said ≡ step.More))
TakesPair form None line to said =
    ((name : List ℕ) × NamesTable name line × (to ≡ next.Config form name) × (said ≡ step.More))
    ⊎ ((line ≢ codes "Data") × NamesNone line × (to ≡ next.Skipped form None) × (said ≡ step.More))

-- a line leads from what is next to what is next behind it, and says this
abbrev pub Takes : Next → List ℕ → Next → Step → Type 0
Takes next.Title line to said = IsTitle line × (to ≡ next.Form) × (said ≡ step.More)
Takes next.Form line to said = (form : Form) × (line ≡ form_line form) × (to ≡ next.Header form) × (said ≡ step.More)
Takes (next.Header form) line to said = (line ≡ codes "Header") × (to ≡ next.Pair form None) × (said ≡ step.More)
Takes (next.Pair form found) line to said = TakesPair form found line to said
Takes (next.Skipped form found) line to said = (to ≡ next.Pair form found) × (said ≡ step.More)
Takes (next.Config form name) line to said =
    (formats : Formats) × NamesFormats line formats × (to ≡ next.Pair form (Some (record { name = name; formats = formats }))) × (said ≡ step.More)
Takes (next.Key form formats) line to said = (key : List ℕ) × IsItemLine form formats.key key line × (to ≡ next.Value form formats key) × (said ≡ step.Key)
Takes (next.Value form formats key) line to said = (value : List ℕ) × IsItemLine form formats.value value line × (to ≡ next.Key form formats) × (said ≡ step.Row key value)
Takes next.Over line to said = ⊥

-- no line like this one stands here
abbrev pub TakesNone : Next → List ℕ → Type 0
TakesNone at line = (to : Next) (said : Step) → Takes at line to said → ⊥

-- the lines may end before what is next
abbrev pub MayEnd : Next → Type 0
MayEnd (next.Key form formats) = Unit {0}
MayEnd next.Title = ⊥
MayEnd next.Form = ⊥
MayEnd (next.Header form) = ⊥
MayEnd (next.Pair form found) = ⊥
MayEnd (next.Skipped form found) = ⊥
MayEnd (next.Config form name) = ⊥
MayEnd (next.Value form formats key) = ⊥
MayEnd next.Over = ⊥

-- the number of the line behind so many, counted from 1; the count stands still at 2^64 - 1
abbrev pub number_behind : ℕ → ℕ
number_behind lines = min (lines + 1) (2 ^ 64 - 1)

-- ---- readers

-- a reader that no line was given
abbrev pub first_reader : DumpReader
first_reader = record { lines = 0; next = next.Title }

-- a reader takes a line, and says this of it
abbrev pub Reads : DumpReader → List ℕ → DumpReader → Step → Type 0
Reads old line new said = Takes old.next line new.next said × (new.lines ≡ number_behind old.lines)

-- a reader takes no line like this one
abbrev pub ReadsNone : DumpReader → List ℕ → Type 0
ReadsNone reader line = TakesNone reader.next line

-- the refusal of the next line, or of an end before it
abbrev pub refusal_of_next : DumpReader → Refusal
refusal_of_next reader = Invalid (Text (number_behind reader.lines))

-- a reader that refuses each line, and the end
abbrev pub IsOver : DumpReader → Type 0
IsOver reader = reader.next ≡ next.Over

-- the lines that a reader was given are a whole dump
abbrev pub HasWhole : DumpReader → Type 0
HasWhole reader = MayEnd reader.next

-- a key is next, or an end
abbrev pub IsAtKey : Form → DumpReader → Type 0
IsAtKey form reader = (formats : Formats) × (reader.next ≡ next.Key form formats)
