-- What an opening keeps of the records of a history, by the leaves in which their keys lie.
use Rattle.std.specs.Prelude.{◌≡◌, ◌≢◌, ◌&&◌, ◌^◌, ℕ, nat_lt, true, Bool, List, [], map, filter, IsPermutation, Some, None}
use Rattle.std.specs.List.{Contains}
use Rattle.std.specs.Ordering.{nat_cmp, then_cmp, on}
use Rattle.std.specs.Cmp.Lexicographic.{slice_cmp}
use Rattle.std.specs.declared.cmp.Ordering.{Ordering}
use Rattle.stamp.specs.declared.Name.{Name}
use Rattle.kv_model.specs.Content.{Content}
use Rattle.kv_model.specs.Holds.{Descends}
use Rattle.kv_model.specs.History.{has_table}
use Rattle.kv_model.specs.Ordered.{NameBelow}
use Rattle.row_page.specs.Changes.{version_in}
use Rattle.row_page.specs.Reading.{row_fits}
use Rattle.row_page.specs.Rows.{key_most}
use Rattle.stored.specs.HistoryTree.{HistoryRecord, record_in}
use Rattle.leaf_rows.specs.declared.marks.Marks.{Marks}
use Rattle.leaf_rows.specs.Contents.{is_seen_window}
use Rattle.reconcile.specs.declared.image.Moved.{Moved}
use Rattle.tree_dir.specs.declared.leaf.Leaf.{Leaf}
use Rattle.tree_dir.specs.Leaves.{leaf_named, leaf_under}
use Rattle.ckpt_content.specs.Opened.{AreKeptRecords}
use Rattle.evict_step.specs.Kept.{Lists, lies_in, list_of, records_in}

-- an opening keeps the record, where its table is there
abbrev pub is_kept_record : Marks → List ℕ → HistoryRecord → Bool
is_kept_record m ids r = is_seen_window m ids r.version.window

-- it fits a row of its key
abbrev pub record_fits : HistoryRecord → Bool
record_fits r = row_fits key_most (r.key, r.version) && nat_lt r.table (2 ^ 32)

-- the content has these marks, and these ids had not ended
pub record HasMarks (c : Content) (m : Marks) (ids : List ℕ) : Type 0 where
  pub run : c.run ≡ m.run
  pub stable : c.stable ≡ m.stable
  pub snapshot : c.snapshot ≡ record { min = m.min; max = m.max; ids = ids }

-- ---- the order

abbrev pub name_cmp : Name → Name → Ordering
name_cmp = then_cmp (on (λ n. n.run) nat_cmp) (on (λ n. n.id) nat_cmp)

-- by table, then by key, then by name, the greatest first
abbrev pub record_cmp : HistoryRecord → HistoryRecord → Ordering
record_cmp = then_cmp (on (λ r. r.table) nat_cmp) (then_cmp (on (λ r. r.key) (slice_cmp nat_cmp)) (λ r s. name_cmp s.version.window.name r.version.window.name))

-- the second, if it is of the same key, is older
abbrev pub Follows : HistoryRecord → HistoryRecord → Type 0
Follows s r = r.table ≡ s.table → r.key ≡ s.key → NameBelow s.version.window.name r.version.window.name

-- the same records, of a key newest first
pub record AreOrdered (records ordered : List HistoryRecord) : Type 0 where
  pub same : IsPermutation records ordered
  pub falls : Descends Follows ordered

-- ---- by leaf

-- the record as a version that is kept of a leaf
abbrev pub moved_of : HistoryRecord → Moved
moved_of r = record { key = r.key; version = version_in r.version }

-- the record's key lies in the leaf of this id
abbrev pub is_in_leaf : List Leaf → ℕ → HistoryRecord → Bool
is_in_leaf leaves id r = lies_in leaves r.table id r.key

-- those of these records, as versions that are kept of it
abbrev pub moved_in : List Leaf → List HistoryRecord → ℕ → List Moved
moved_in leaves records id = map {A = HistoryRecord} moved_of (filter (is_in_leaf leaves id) records)

-- ---- what is promised

-- Of each leaf of a table that is there, these lists have of each key that lies in it the records that are kept, newest first: for every content with these marks and records.
abbrev pub KeepsRecords : Marks → List ℕ → List HistoryRecord → List Leaf → Lists → Type 0
KeepsRecords m ids records leaves kept = (c : Content) → HasMarks c m ids → c.records ≡ map {A = HistoryRecord} record_in records
    → (l : Leaf) → Contains leaves l → has_table c.tables l.table ≡ true → (key : List ℕ) → leaf_under l.table key leaves ≡ Some l
    → AreKeptRecords c l.table key (records_in kept l.id key)

-- they have nothing of keys that do not lie in a leaf, nor of an id that is of none
pub record KeepsNoOthers (leaves : List Leaf) (kept : Lists) : Type 0 where
  pub keys : (l : Leaf) → Contains leaves l → (key : List ℕ) → leaf_under l.table key leaves ≢ Some l → records_in kept l.id key ≡ []
  pub ids : (id : ℕ) → leaf_named id leaves ≡ None → list_of kept id ≡ []
