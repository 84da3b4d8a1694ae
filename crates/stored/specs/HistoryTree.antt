-- The tree of the history: inner pages of entries, and leaves of records. A record is an older version of a key of a table.
use Rattle.std.specs.Prelude.{◌≡◌, ◌≢◌, ◌⊎◌, ℕ, ◌+◌, ◌<◌, ◌≤◌, ◌^◌, Bool, true, IsTrue, List, [], ◌∷◌, ◌++◌, length, map, Option, Some, None}
use Rattle.std.specs.List.{flat_map, AllByRecursion}
use Rattle.std.specs.Int.{w16, w32, w64}
use Rattle.std.specs.Ordering.{nat_cmp, then_cmp, on, is_lt}
use Rattle.std.specs.declared.cmp.Ordering.{Ordering}
use Rattle.std.specs.Cmp.Lexicographic.{slice_cmp}
use Rattle.stamp.specs.declared.name.Name.{Name}
use Rattle.le_codec.specs.Fields.{le}
use Rattle.le_codec.specs.Images.{first_format}
use Rattle.le_codec.specs.Images.{framed}
use Rattle.kv_model.specs.History.{Placed}
use Rattle.stamp.specs.declared.version.Version.{Version}
use Rattle.row_page.specs.Changes.{PageChange, version_in}
use Rattle.row_page.specs.Rows.{key_most, cell, RowFits, IsName}
use Rattle.row_page.specs.Greatest.{no_name}
use Rattle.device_layout.specs.declared.link.Link.{Link}
use Rattle.stored.specs.Links.{link_text, LinkFits, nowhere, SaysOf}
use Rattle.stored.specs.Tree.{Kind, Tree, join}

-- an older version of a key of a table
pub record HistoryRecord : Type 0 where
  pub table : ℕ
  pub key : List ℕ
  pub version : Version PageChange

-- the same, in the model
abbrev pub record_in : HistoryRecord → Placed
record_in r = record { table = r.table; key = r.key; version = version_in r.version }

-- what orders records: the table's number, the key, the commit stamp, and the name
pub record Mark : Type 0 where
  pub table : ℕ
  pub key : List ℕ
  pub commit : ℕ
  pub name : Name

abbrev pub mark_of : HistoryRecord → Mark
mark_of r = record { table = r.table; key = r.key; commit = r.version.window.commit; name = r.version.window.name }

abbrev pub mark_cmp : Mark → Mark → Ordering
mark_cmp = then_cmp (on (λ m. m.table) nat_cmp) (then_cmp (on (λ m. m.key) (slice_cmp nat_cmp)) (then_cmp (on (λ m. m.commit) nat_cmp) (then_cmp (on (λ m. m.name.run) nat_cmp) (on (λ m. m.name.id) nat_cmp))))

abbrev pub is_before : Mark → Mark → Bool
is_before x y = is_lt (mark_cmp x y)

-- ---- a leaf

-- the table's number, and then as a cell of a leaf
abbrev pub record_text : HistoryRecord → List ℕ
record_text r = le w32 r.table ++ cell (r.key, r.version)

abbrev pub history_image : List HistoryRecord → List ℕ
history_image records = framed 3 first_format (length records) 0 (flat_map record_text records)

pub record RecordFits (r : HistoryRecord) : Type 0 where
  pub table : r.table < 2 ^ 32
  pub row : RowFits [] key_most (r.key, r.version)

-- the mark comes after the one before, where there is one
abbrev pub comes_behind : Option Mark → Mark → Bool
comes_behind None mark = true
comes_behind (Some before) mark = is_before before mark

-- the records ascend strictly
abbrev pub RecordsAscend : Option Mark → List HistoryRecord → Type 0
RecordsAscend before [] = Unit {0}
RecordsAscend before (r ∷ records) = IsTrue (comes_behind before (mark_of r)) × RecordsAscend (Some (mark_of r)) records

-- two records are of one version of a key
pub record AreAlike (r s : HistoryRecord) : Type 0 where
  pub table : r.table ≡ s.table
  pub key : r.key ≡ s.key
  pub name : r.version.window.name ≡ s.version.window.name

-- a name stands once for each key of a table
abbrev pub NamesOnce : List HistoryRecord → Type 0
NamesOnce [] = Unit {0}
NamesOnce (r ∷ records) = AllByRecursion (λ (s : HistoryRecord). AreAlike r s → ⊥) records × NamesOnce records

-- the records that a leaf of the history can have
pub record AreRecords (records : List HistoryRecord) : Type 0 where
  pub some : 1 ≤ length records
  pub fit : AllByRecursion (λ (r : HistoryRecord). RecordFits r) records
  pub ascend : RecordsAscend None records
  pub once : NamesOnce records
  pub size : 16 + length (flat_map record_text records) ≤ 32768

-- ---- an inner page

-- the least record below, and what leads there
pub record HistoryEntry : Type 0 where
  pub least : Mark
  pub link : Link

-- 70 bytes and the key
abbrev pub history_entry_text : HistoryEntry → List ℕ
history_entry_text e = le w32 e.least.table ++ le w16 (length e.least.key) ++ le w64 e.least.commit ++ le w64 e.least.name.run ++ le w64 e.least.name.id ++ link_text e.link ++ e.least.key

abbrev pub history_inner_image : ℕ → List HistoryEntry → List ℕ
history_inner_image level entries = framed 4 first_format (length entries) level (flat_map history_entry_text entries)

pub record HistoryEntryFits (e : HistoryEntry) : Type 0 where
  pub table : e.least.table < 2 ^ 32
  pub key : length e.least.key ≤ key_most
  pub commit : e.least.commit < 2 ^ 64
  pub name : IsName e.least.name
  pub link : LinkFits e.link

-- each entry's record is above the one before
abbrev pub HistoryClimbs : List HistoryEntry → Type 0
HistoryClimbs [] = Unit {0}
HistoryClimbs (e ∷ []) = Unit {0}
HistoryClimbs (e ∷ f ∷ es) = IsTrue (is_before e.least f.least) × HistoryClimbs (f ∷ es)

-- the entries that an inner page of this level can have
pub record AreHistoryEntries (level : ℕ) (es : List HistoryEntry) : Type 0 where
  pub some : 1 ≤ length es
  pub fit : AllByRecursion (λ (e : HistoryEntry). HistoryEntryFits e) es
  pub climbs : HistoryClimbs es
  pub low : 1 ≤ level
  pub high : level ≤ 60
  pub size : 16 + length (flat_map history_entry_text es) ≤ 4096

-- ---- between the blocks

-- a root has no least record of its own: this stands before every record
abbrev pub start : Mark
start = record { table = 0; key = []; commit = 0; name = no_name }

abbrev pub history_root_entry : Link → HistoryEntry
history_root_entry root = record { least = start; link = root }

abbrev pub first_mark : List HistoryEntry → Option Mark
first_mark [] = None
first_mark (e ∷ es) = Some e.least

abbrev pub first_record : List HistoryRecord → Option Mark
first_record [] = None
first_record (r ∷ records) = Some (mark_of r)

-- a page begins with what its entry says, or the entry is the root's
abbrev pub Begins : HistoryEntry → Option Mark → Type 0
Begins e first = (e.least ≡ start) ⊎ (first ≡ Some e.least)

-- an inner page begins with its entry's record, and the entry says the greatest of what stands below
pub record HistoryLeads (level : ℕ) (e : HistoryEntry) (p : List HistoryEntry) : Type 0 where
  pub page : AreHistoryEntries level p
  pub begins : Begins e (first_mark p)
  pub says : SaysOf e.link (map (λ (x : HistoryEntry). x.link.greatest) p) (map (λ (x : HistoryEntry). x.link.durable) p)

-- a leaf begins with its entry's record; it has none exactly where it is stored nowhere
pub record HistoryBears (e : HistoryEntry) (records : List HistoryRecord) : Type 0 where
  pub leaf : (e.link ≡ nowhere) × (records ≡ []) ⊎ (e.link.addr.offset ≢ 0) × AreRecords records
  pub begins : Begins e (first_record records)
  pub says : SaysOf e.link (map (λ (r : HistoryRecord). r.version.window.name) records) (map (λ (r : HistoryRecord). r.version.window.durable) records)

abbrev pub ends_before : Option Mark → Mark → Bool
ends_before None mark = true
ends_before (Some next) mark = is_before mark next

-- a leaf's records are below the next entry's
abbrev pub HistoryStays : List HistoryEntry → List (List HistoryRecord) → Type 0
HistoryStays [] leaves = Unit {0}
HistoryStays (e ∷ es) [] = Unit {0}
HistoryStays (e ∷ es) (records ∷ leaves) = AllByRecursion (λ (r : HistoryRecord). IsTrue (ends_before (first_mark es) (mark_of r))) records × HistoryStays es leaves

pub record HistoryParts (es : List HistoryEntry) (leaves : List (List HistoryRecord)) : Type 0 where
  pub climbs : HistoryClimbs es
  pub stays : HistoryStays es leaves
  pub once : NamesOnce (join leaves)

abbrev pub history_kind : Kind HistoryEntry HistoryRecord
history_kind = record {
  place = λ e. e.link.addr;
  inner = history_inner_image;
  leaf = history_image;
  Leads = HistoryLeads;
  Bears = HistoryBears;
  Parts = HistoryParts;
}

abbrev pub HistoryTree : Type 0
HistoryTree = Tree HistoryEntry HistoryRecord
