-- What a run of `read`, `dump` or `list` may give on a device some of whose leaves are at fault: what the definitions allow of the whole device, or it ends where a leaf that it needs is at fault.
use Rattle.std.specs.Prelude.{◌≡◌, ◌⊎◌, ◌≤◌, ◌<◌, ◌++◌, ◌∷◌, [], ℕ, List, Some, Err, Result, length, slice_get}
use Rattle.limits.specs.declared.TheConstants.{KEY_MAX}
use Rattle.disk_model.specs.declared.disk.Disk.{Ghosts}
use Rattle.wt_code.specs.declared.refusals.Refusal.{Refusal}
use Rattle.wt_code.specs.declared.refusals.Refusal.TheVariants.{Corrupt}
use Rattle.kv_model.specs.Content.{Content}
use Rattle.kv_model.specs.Holds.{Member}
use Rattle.kv_model.specs.History.{Table, tables, named}
use Rattle.kv_model.specs.Machine.{Machine}
use Rattle.kv_model.specs.Rows.{Way, Up, Down}
use Rattle.inner_page.specs.Children.{IsUnderKey}
use Rattle.item_forms.specs.Forms.{stored_as}
use Rattle.dump_text.specs.declared.form.Form.{Form}
use Rattle.dump_text.specs.Grammar.{Row}
use Rattle.dump_text.specs.Written.{dump_lines, text_of}
use Rattle.device_read.specs.Leaves.{HasNoLeaf, HasNoLeafOf}
use Rattle.device_read.specs.Readers.{Held, IsReaderOf, entries_at, tables_in}
use Rattle.engine_store.specs.Devices.{Device}
use Rattle.script_run.specs.Scripts.{Outside}
use Rattle.script_run.specs.declared.script.End.TheVariants.{Through, Stopped}
use Rattle.wt_line.specs.Line.{Asked, read, list, dump}
use Rattle.wt_tool.specs.Points.{Point, Ran, prints, stops}
use Rattle.wt_tool.specs.Openings.{Named, Opened, Opens, formats_at}
use Rattle.wt_tool.specs.Reads.{ReadsKeys}
use Rattle.wt_tool.specs.Lists.{RunsList}
use Rattle.wt_tool.specs.Dumps.{AreRows, DumpsTable, form_of, way_of}
use Rattle.wt_tool.specs.Fresh.{MayGive, given_by, key_in}

-- ---- the whole device, in the place of what a read gives

abbrev pub device_on : {D : Type 0} → Ghosts D → List ℕ → D → Device
device_on g whole disk = record { seen = whole; capacity = g.capacity disk; faults = g.faults disk; moment = g.moment disk }

abbrev pub point_on : {D : Type 0} → Ghosts D → List ℕ → Machine → D → Point
point_on g whole m disk = record { machine = m; device = device_on g whole disk }

-- ---- the leaf that is needed

-- the device has a table of this name, at this place
pub record IsTableOn (bytes name : List ℕ) : Type 0 where
  pub held : Held
  pub reader : IsReaderOf bytes held
  pub place : ℕ
  pub table : Table
  pub there : slice_get (tables_in held) place ≡ Some table
  pub is_named : named name (tables_in held) ≡ Some table

-- the leaf of the table of this name in which the key would stand is at fault
pub record LacksLeafOf (bytes name key : List ℕ) (at want found : ℕ) : Type 0 where
  pub on : IsTableOn bytes name
  pub short : length key ≤ KEY_MAX
  pub leaf : HasNoLeafOf bytes on.held on.place key at want found

-- ---- `read`

-- The keys in front are read, and then the run ends: the leaf of the next one is at fault, and this is told.
pub record StopsAtKey (output_failed : Type 0) (bytes name : List ℕ) (keys : List (List ℕ)) (p : Point) (ran : Ran) : Type 0 where
  pub front : List (List ℕ)
  pub word : List ℕ
  pub others : List (List ℕ)
  pub are : keys ≡ front ++ word ∷ others
  pub before : Ran
  pub reads : ReadsKeys output_failed name front p before
  pub through : before.end ≡ Through
  pub at : ℕ
  pub want : ℕ
  pub found : ℕ
  pub leaf : LacksLeafOf bytes name (stored_as (formats_at p.machine name).key word) at want found
  pub next : Point
  pub opens : Opens before.next next
  pub is : ran ≡ record before { refusals = before.refusals ++ Corrupt at want found ∷ []; next = next; end = Stopped (Corrupt at want found) }

abbrev pub ReadsKeysOn : (output_failed : Type 0) → (bytes name : List ℕ) → List (List ℕ) → Point → Ran → Type 0
ReadsKeysOn output_failed bytes name keys p ran = ReadsKeys output_failed name keys p ran ⊎ StopsAtKey output_failed bytes name keys p ran

abbrev pub RunsReadOn : (output_failed : Type 0) → (bytes uri : List ℕ) → List (List ℕ) → Point → Ran → Type 0
RunsReadOn output_failed bytes uri keys p ran = Named uri (λ name. ReadsKeysOn output_failed bytes name keys) p ran

-- ---- `dump`

-- on a way over leaves one comes before the other
abbrev pub ComesBefore : Way → (one other : ℕ) → Type 0
ComesBefore Up one other = one < other
ComesBefore Down one other = other < one

-- A leaf of the table is at fault, and this is told. A front of the text is printed, of no rows but those whose leaves come before it.
pub record StopsAtLeaf (bytes : List ℕ) (form : Form) (way : Way) (name : List ℕ) (p : Point) (ran : Ran) : Type 0 where
  pub on : IsTableOn bytes name
  pub index : ℕ
  pub at : ℕ
  pub want : ℕ
  pub found : ℕ
  pub leaf : HasNoLeaf bytes on.held on.place index at want found
  pub is_named : named name (tables p.machine.history) ≡ Some on.table
  pub rows : List Row
  pub others : List Row
  pub all : AreRows way p.machine on.table (rows ++ others)
  pub under : (row : Row) → Member row rows → (j : ℕ) × IsUnderKey (entries_at on.held on.place) row.0 j × ComesBefore way j index
  pub front : List ℕ
  pub rest : List ℕ
  pub text : text_of (dump_lines form name on.table.formats rows) ≡ front ++ rest
  pub next : Point
  pub opens : Opens p next
  pub is : ran ≡ prints front (stops (Corrupt at want found) next)

abbrev pub DumpsTableOn : (output_failed : Type 0) → List ℕ → Form → Way → List ℕ → Point → Ran → Type 0
DumpsTableOn output_failed bytes form way name p ran = DumpsTable output_failed form way name p ran ⊎ StopsAtLeaf bytes form way name p ran

abbrev pub RunsDumpOn : (output_failed : Type 0) → List ℕ → Form → Way → List ℕ → Point → Ran → Type 0
RunsDumpOn output_failed bytes form way uri p ran = Named uri (DumpsTableOn output_failed bytes form way) p ran

-- ---- each of them

-- what a run of these commands may give on the device that has these bytes, from the point at which the whole one would be handed in; `list` needs no leaf
abbrev pub RunsOn : Outside → (bytes : List ℕ) → Asked → Point → Ran → Type 0
RunsOn o bytes (read uri keys) p ran = Opened (RunsReadOn o.output_failed bytes uri keys) p ran
RunsOn o bytes list p ran = Opened (RunsList o.output_failed) p ran
RunsOn o bytes (dump hex reverse uri) p ran = Opened (RunsDumpOn o.output_failed bytes (form_of hex) (way_of reverse) uri) p ran
RunsOn o bytes _ p ran = ⊥

-- ---- what the steps leave

-- what the get of a word gives: as on the whole device, or its leaf is at fault
abbrev pub MayGiveOn : Content → (bytes name word : List ℕ) → (faults faults_now : ℕ) → Result (List ℕ) Refusal → Type 0
MayGiveOn c bytes name word faults faults_now result =
    MayGive c name (key_in c name word) faults faults_now (given_by result)
    ⊎ ((at want found : ℕ) × (result ≡ Err (Corrupt at want found)) × LacksLeafOf bytes name (key_in c name word) at want found)
