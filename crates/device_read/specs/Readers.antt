-- What a reader has of a device, and what the device has below it.
use Rattle.std.specs.Prelude.{◌≡◌, ◌⊎◌, ℕ, suc, zero, List, [], ◌∷◌, length, drop, slice_get, Some, None}
use Rattle.kv_model.specs.History.{Table}
use Rattle.row_page.specs.Rows.{Row}
use Rattle.leaf_rows.specs.declared.marks.Marks.{Marks}
use Rattle.leaf_rows.specs.Contents.{seen_rows}
use Rattle.stored.specs.HistoryTree.{HistoryRecord}
use Rattle.stored.specs.TableTree.{Entry, first_key}
use Rattle.stored.specs.Records.{TableRoot, TablesClimb}
use Rattle.stored.specs.Stored.{IsBlank, tables_of}
use Rattle.device_leaf.specs.declared.place.Place.{Place}
use Rattle.tree_open.specs.declared.place.Upper.{Upper}
use Rattle.recover_open.specs.declared.wholes.Whole.{Whole}
use Rattle.recover_open.specs.Bare.{AllClimb, marks_of}
use Rattle.recover_open.specs.Leaves.{AreLeaves}
use Rattle.recover_open.specs.Wholes.{SurveysWhole}
use Rattle.device_read.specs.Merging.{merged}
use Rattle.device_read.specs.Newest.{KeysClimb, newest_kept, of_leaf, rows_of}

-- The tables of a checkpoint, what the tree of each has above its leaves, what tells the versions that an opening keeps, and of its history the newest record of each key that is kept.
pub record Held : Type 0 where
  pub tables : List TableRoot
  pub uppers : List Upper
  pub marks : Marks
  pub ids : List ℕ
  pub newest : List HistoryRecord

-- what holds of every reader: the tables ascend by name, each has the entries of its leaves in the order of their keys, and the records ascend by table and key
pub record IsInForm (h : Held) : Type 0 where
  pub ascend : TablesClimb h.tables
  pub climb : AllClimb h.uppers
  pub count : length h.uppers ≡ length h.tables
  pub keys : KeysClimb h.newest

-- where no checkpoint was completed
abbrev pub HoldsNothing : Held → Type 0
HoldsNothing h = (h.tables ≡ []) × (h.uppers ≡ []) × (h.newest ≡ [])

-- of a checkpoint that was surveyed
abbrev pub held_of : Whole → Held
held_of w = record {
  tables = w.record.tables;
  uppers = w.uppers.items;
  marks = marks_of w.record;
  ids = w.record.snapshot.ids;
  newest = newest_kept (marks_of w.record) w.record.snapshot.ids w.history.records.items;
}

-- The reader was opened on these bytes.
abbrev pub IsReaderOf : List ℕ → Held → Type 0
IsReaderOf bytes h = (IsBlank bytes × HoldsNothing h) ⊎ ((place : Place) × (w : Whole) × SurveysWhole bytes place w × (h ≡ held_of w))

-- ---- its tables

-- by place: ascending by name
abbrev pub tables_in : Held → List Table
tables_in h = tables_of h.tables

-- the entries of the leaves of the table at a place, none where no table is there
abbrev pub entries_in : List Upper → ℕ → List Entry
entries_in [] place = []
entries_in (u ∷ uppers) zero = u.entries.items
entries_in (u ∷ uppers) (suc place) = entries_in uppers place

abbrev pub entries_at : Held → ℕ → List Entry
entries_at h place = entries_in h.uppers place

-- how many leaves it has
abbrev pub leaf_count : Held → ℕ → ℕ
leaf_count h place = length (entries_at h place)

-- its number
abbrev pub number_in : List TableRoot → ℕ → ℕ
number_in [] place = 0
number_in (t ∷ tables) zero = t.table.number
number_in (t ∷ tables) (suc place) = number_in tables place

abbrev pub number_at : Held → ℕ → ℕ
number_at h place = number_in h.tables place

-- ---- its pages

-- the least key that may stand in the i-th leaf: in the first any
abbrev pub least_of : List Entry → List ℕ
least_of [] = []
least_of (e ∷ es) = e.key

abbrev pub low_at : List Entry → ℕ → List ℕ
low_at es zero = []
low_at es (suc i) = least_of (drop (suc i) es)

-- the records of the table's history that stand in the i-th leaf
abbrev pub newest_on : Held → (place i : ℕ) → List HistoryRecord
newest_on h place i = of_leaf (number_at h place) (low_at (entries_at h place) i) (first_key (drop (suc i) (entries_at h place))) h.newest

-- the rows of the i-th leaf that an opening keeps, and these records among them: of a key that both have the later version
abbrev pub page_on : Held → (place i : ℕ) → List Row → List Row
page_on h place i rows = merged (seen_rows h.marks h.ids rows) (rows_of (newest_on h place i))

-- The device has each leaf of the table at this place: these are the pages that an opening makes of them.
pub record HasPages (bytes : List ℕ) (h : Held) (place : ℕ) (pages : List (List Row)) : Type 0 where
  pub leaves : List (List Row)
  pub are : AreLeaves bytes (entries_at h place) None leaves
  pub count : length pages ≡ length leaves
  pub kept : (i : ℕ) (rows : List Row) → slice_get leaves i ≡ Some rows → slice_get pages i ≡ Some (page_on h place i rows)
