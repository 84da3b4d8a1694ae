-- The rows of pages on a way, and how far they are printed.
use Rattle.std.specs.Prelude.{◌≡◌, ◌⊎◌, ◌++◌, ◌-◌, ◌<◌, ℕ, suc, List, [], length, take, Option, Some, None, Result, Ok, Err, MatchOption, reverse, slice_get}
use Rattle.std.specs.List.{flat_map}
use Rattle.std.specs.Option.{option_map_or}
use Rattle.failure.specs.Counts.{Rose}
use Rattle.item.specs.declared.formats.Formats.{Formats}
use Rattle.wt_code.specs.declared.refusals.Refusal.TheVariants.{Corrupt, NoMemory, NoTable, DiskFault, Invalid as Refusal_Invalid}
use Rattle.wt_code.specs.declared.refusals.Invalid.TheVariants.{BadName}
use Rattle.kv_model.specs.Content.{Content, start}
use Rattle.kv_model.specs.Holds.{Member}
use Rattle.kv_model.specs.History.{Table, tables, named}
use Rattle.kv_model.specs.Rows.{Way, Up, Down}
use Rattle.row_page.specs.Rows.{Row as PageRow}
use Rattle.inner_page.specs.Children.{IsUnderKey}
use Rattle.device_read.specs.Leaves.{HasNoLeaf}
use Rattle.device_read.specs.Readers.{Held, entries_at}
use Rattle.device_read.specs.Rows.{put_rows}
use Rattle.dump_text.specs.declared.form.Form.{Form}
use Rattle.dump_text.specs.Grammar.{Row}
use Rattle.dump_text.specs.Written.{dump_lines, row_lines, text_of}
use Rattle.engine_store.specs.Devices.{Device}
use Rattle.script_run.specs.declared.script.End.{End}
use Rattle.script_run.specs.declared.script.End.TheVariants.{Through, Stopped, InputFailed, OutputFailed}
use Rattle.wt_io.specs.Streams.{Took, TookFront}
use Rattle.wt_tool.specs.declared.tables.TableAt.{TableAt}
use Rattle.wt_tool.specs.Dumps.{AreRows}
use Rattle.wt_tool.specs.Damaged.{ComesBefore, IsTableOn}
use Rattle.wt_tool.specs.Parts.{IsSoOfLeaves}
use Rattle.wt_tool.specs.Words.{name_in, plain_formats}

-- ---- tables

-- the table of this name, by its place among these
abbrev pub IsTableAt : List Table → List ℕ → TableAt → Type 0
IsTableAt known name found = (t : Table) × (slice_get known found.place ≡ Some t) × (named name known ≡ Some t) × (found.formats ≡ t.formats)

-- where there is one
abbrev pub IsTableOf : List Table → List ℕ → Option TableAt → Type 0
IsTableOf known name found = MatchOption found (named name known ≡ None) (IsTableAt known name)

-- its formats; where there is none, words are taken as they are
abbrev pub formats_found : Option TableAt → Formats
formats_found found = option_map_or (λ t. t.formats) found plain_formats

-- ---- a way

-- a list as a way goes over it
abbrev pub along : {A : Type 0} → Way → List A → List A
along Up xs = xs
along Down xs = reverse xs

-- where the next one is found, of so many, behind those that were passed
abbrev pub place_on : Way → (count passed : ℕ) → ℕ
place_on Up count passed = passed
place_on Down count passed = count - suc passed

-- the rows of pages on a way: page after page, and in each row after row
abbrev pub rows_on : Way → List (List PageRow) → List Row
rows_on way pages = flat_map (λ page. put_rows (along way page)) (along way pages)

abbrev pub rows_text : Form → List Row → List ℕ
rows_text form rows = text_of (flat_map (row_lines form) rows)

-- ---- what is printed

-- a front of the text is printed, and this is the rest
abbrev pub IsLeft : (before now : Option (List ℕ)) → (rest text : List ℕ) → Type 0
IsLeft before now rest text = (printed : List ℕ) × (printed ++ rest ≡ text) × Took before now printed

-- Want of memory, a fault of the disk or a write of the output that failed ends the run, with a front of the text printed.
abbrev pub CutsOff : (output_failed disk_failed : Type 0) → (before now : Option (List ℕ)) → List ℕ → End → Type 0
CutsOff output_failed disk_failed before now text Through = ⊥
CutsOff output_failed disk_failed before now text InputFailed = ⊥
CutsOff output_failed disk_failed before now text OutputFailed = TookFront before now text × output_failed
CutsOff output_failed disk_failed before now text (Stopped r) = ((r ≡ NoMemory) ⊎ ((r ≡ DiskFault) × disk_failed)) × ((front rest : List ℕ) × (text ≡ front ++ rest) × Took before now front)

-- the text is printed, or the run is cut off
abbrev pub EndsBy : (output_failed disk_failed : Type 0) → (before now : Option (List ℕ)) → List ℕ → End → Type 0
EndsBy output_failed disk_failed before now text Through = Took before now text
EndsBy output_failed disk_failed before now text end = CutsOff output_failed disk_failed before now text end

-- more was put behind a text of which a front may be printed, or the run was cut off
abbrev pub PutsBehind : (output_failed disk_failed : Type 0) → (before now : Option (List ℕ)) → (old new more : List ℕ) → Result (Unit {0}) End → Type 0
PutsBehind output_failed disk_failed before now old new more (Ok done) = IsLeft before now new (old ++ more)
PutsBehind output_failed disk_failed before now old new more (Err end) = CutsOff output_failed disk_failed before now (old ++ more) end

-- the text of a table's rows
abbrev pub RowsEndBy : (output_failed disk_failed : Type 0) → Content → Table → Form → Way → List ℕ → (before now : Option (List ℕ)) → End → Type 0
RowsEndBy output_failed disk_failed c t form way name before now end =
    (rows : List Row) × AreRows way (start c) t rows × EndsBy output_failed disk_failed before now (text_of (dump_lines form name t.formats rows)) end

-- of the table of this name, where there is one; else the device is not touched
abbrev pub TableEndsBy : (output_failed : Type 0) → (old new : Device) → Content → Form → Way → List ℕ → (before now : Option (List ℕ)) → End → Type 0
TableEndsBy output_failed old new c form way name before now end =
    ((named name (tables (start c).history) ≡ None) × (end ≡ Stopped NoTable) × (new ≡ old) × Took before now [])
    ⊎ ((t : Table) × (named name (tables (start c).history) ≡ Some t) × RowsEndBy output_failed (Rose old.faults new.faults) c t form way name before now end)

-- of the table that a uri names, where it names one; else the device is not touched
abbrev pub UriEndsBy : (output_failed : Type 0) → (old new : Device) → Content → Form → Way → List ℕ → (before now : Option (List ℕ)) → End → Type 0
UriEndsBy output_failed old new c form way uri before now end =
    MatchOption (name_in uri) ((end ≡ Stopped (Refusal_Invalid BadName)) × (new ≡ old) × Took before now []) (λ name. TableEndsBy output_failed old new c form way name before now end)

-- ---- where a leaf is at fault

-- more was put behind the text, or the run ended before it: the i-th leaf is at fault, and nothing more is printed
abbrev pub PutsLeaf : (output_failed disk_failed : Type 0) → (bytes : List ℕ) → Held → (place i : ℕ) → (before now : Option (List ℕ)) → (old new more : List ℕ) → Result (Unit {0}) End → Type 0
PutsLeaf output_failed disk_failed bytes h place i before now old new more result =
    PutsBehind output_failed disk_failed before now old new more result
    ⊎ ((at want found : ℕ) × (result ≡ Err (Stopped (Corrupt at want found))) × HasNoLeaf bytes h place i at want found × Took before now [])

-- the run ended at the leaf behind so many of these pages on a way, with a front of their text printed
pub record EndsAtLeaf (bytes : List ℕ) (h : Held) (place : ℕ) (form : Form) (way : Way) (head : List ℕ) (pages : List (List PageRow)) (before now : Option (List ℕ)) (end : End) : Type 0 where
  pub passed : ℕ
  pub within : passed < length pages
  pub at : ℕ
  pub want : ℕ
  pub found : ℕ
  pub leaf : HasNoLeaf bytes h place (place_on way (length pages) passed) at want found
  pub front : List ℕ
  pub rest : List ℕ
  pub text : head ++ rows_text form (flat_map (λ page. put_rows (along way page)) (take passed (along way pages))) ≡ front ++ rest
  pub took : Took before now front
  pub is : end ≡ Stopped (Corrupt at want found)

-- the text of a table is printed up to a leaf that is at fault
pub record LacksLeaf (bytes : List ℕ) (c : Content) (form : Form) (way : Way) (name : List ℕ) (before now : Option (List ℕ)) (end : End) : Type 0 where
  pub on : IsTableOn bytes name
  pub index : ℕ
  pub at : ℕ
  pub want : ℕ
  pub found : ℕ
  pub leaf : HasNoLeaf bytes on.held on.place index at want found
  pub is_named : named name (tables (start c).history) ≡ Some on.table
  pub rows : List Row
  pub others : List Row
  pub all : AreRows way (start c) on.table (rows ++ others)
  pub under : (row : Row) → Member row rows → (j : ℕ) × IsUnderKey (entries_at on.held on.place) row.0 j × ComesBefore way j index
  pub front : List ℕ
  pub rest : List ℕ
  pub text : text_of (dump_lines form name on.table.formats rows) ≡ front ++ rest
  pub took : Took before now front
  pub is : end ≡ Stopped (Corrupt at want found)

-- of the table that a uri names
abbrev pub UriLacksLeaf : (bytes : List ℕ) → Content → Form → Way → List ℕ → (before now : Option (List ℕ)) → End → Type 0
UriLacksLeaf bytes c form way uri before now end = (name : List ℕ) × (name_in uri ≡ Some name) × LacksLeaf bytes c form way name before now end

-- Whatever the disk: what a refusal that ends the run says of the leaves is so, a fault of the output or of the disk ends it only where its count rose, and the input is not used.
abbrev pub EndsSoundly : (output_failed disk_failed honest : Type 0) → List ℕ → End → Type 0
EndsSoundly output_failed disk_failed honest bytes Through = Unit {0}
EndsSoundly output_failed disk_failed honest bytes OutputFailed = output_failed
EndsSoundly output_failed disk_failed honest bytes InputFailed = ⊥
EndsSoundly output_failed disk_failed honest bytes (Stopped r) = IsSoOfLeaves honest bytes r × (r ≡ DiskFault → disk_failed)
