-- What a device holds, by the entries of the leaves of its tables, and an engine on them that has read no leaf.
use Rattle.std.specs.Prelude.{◌≡◌, ℕ, ◌+◌, ◌≤◌, ◌==◌, List, [], ◌∷◌, length, map, reverse, Option, Some, None, bytes_eq, if◌then◌else◌}
use Rattle.std.specs.List.{AllByRecursion, Contains}
use Rattle.kv_model.specs.Content.{Content, descending, table_lt}
use Rattle.kv_model.specs.History.{Table}
use Rattle.row_page.specs.Rows.{Row}
use Rattle.leaf_rows.specs.declared.marks.Marks.{Marks}
use Rattle.leaf_rows.specs.Contents.{seen_rows}
use Rattle.leaf_rows.specs.Rows.{AreFit}
use Rattle.stored.specs.Tree.{AllBear, join}
use Rattle.stored.specs.TableTree.{Climbs, Entry, Stay, table_kind}
use Rattle.tree_dir.specs.declared.leaf.Leaf.{Leaf}
use Rattle.tree_dir.specs.Leaves.{AreTable, Directory, HasTable, IsDirectory, leaf_named, no_leaves}
use Rattle.txn_table.specs.Tabled.{fresh}
use Rattle.catalog.specs.Known.{AreTables}
use Rattle.engine_world.specs.Leaves.{FramesStand}
use Rattle.engine_world.specs.Stands.{Engine}
use Rattle.engine_world.specs.Systems.{StartsOnDevice}
use Rattle.engine_world.specs.Worlds.{Records}
use Rattle.engine_start.specs.Contents.{TableLeaf}
use Rattle.engine_start.specs.declared.table_entries.TableEntries.{TableEntries}

-- the rows of the leaf to which an entry of a table leads, by the table's number
abbrev pub Led : Type 0
Led = ℕ → Entry → List Row

abbrev pub entries_of : TableEntries → List Entry
entries_of t = t.entries.items

abbrev pub tables_of : List TableEntries → List Table
tables_of tables = map {A = TableEntries} (λ t. t.table) tables

-- the rows of each leaf of a table
abbrev pub leaves_led : Led → TableEntries → List (List Row)
leaves_led led t = map (led t.table.number) (entries_of t)

-- the table with all its rows
abbrev pub whole_table : Led → TableEntries → TableLeaf
whole_table led t = record { table = t.table; rows = join (leaves_led led t) }

abbrev pub whole_tables : Led → List TableEntries → List TableLeaf
whole_tables led tables = map (whole_table led) tables

-- each leaf of the table has rows that fit, and these are from its entry's key up to the next one's
pub record IsParted (led : Led) (t : TableEntries) : Type 0 where
  pub entries : AreTable (entries_of t)
  pub fit : AllByRecursion (λ (rows : List Row). AreFit rows) (leaves_led led t)
  pub stay : Stay (entries_of t) (leaves_led led t)

-- ---- the engine

-- the tables came into a directory, one after the other
abbrev pub AreAdded : Directory → List TableEntries → Directory → Type 0
AreAdded old [] new = new ≡ old
AreAdded old (t ∷ tables) new = (between : Directory) × ((ids : List ℕ) × HasTable old between t.table.number (entries_of t) ids) × AreAdded between tables new

-- of each leaf the shelf has what an opening keeps of the rows to which its entry leads; these ids had not ended when the checkpoint started
abbrev pub IsShelf : Marks → List ℕ → Led → (ℕ → List Row) → List Leaf → Type 0
IsShelf m ids led shelf leaves = (l : Leaf) → Contains leaves l → shelf l.id ≡ seen_rows m ids (led l.table l.entry)

-- an engine on these tables that has read no leaf, and has no session
pub record IsUnread (m : Marks) (tables : List TableEntries) (e : Engine) : Type 0 where
  pub fault : e.hub.fault ≡ None
  pub stamps : e.hub.stamps ≡ record { oldest = m.oldest; stable = m.stable }
  pub txns : e.hub.txns ≡ fresh (m.run + 1) 0
  pub catalog : AreTables e.hub.tables
  pub tables_are : reverse e.hub.tables.tables ≡ descending table_lt (tables_of tables)
  pub dir : IsDirectory e.hub.dir
  pub added : AreAdded no_leaves tables e.hub.dir
  pub frames : FramesStand e.pieces e.states
  pub sessions : e.sessions ≡ []
  pub systems : map (λ x. None) e.systems ≡ e.systems

-- the content has these marks and these tables
pub record IsContentOf (m : Marks) (tables : List TableEntries) (c : Content) : Type 0 where
  pub run : c.run ≡ m.run
  pub oldest : c.oldest ≡ m.oldest
  pub stable : c.stable ≡ m.stable
  pub tables_are : c.tables ≡ tables_of tables

-- each leaf starts on the device with what the content keeps of it, and the history keeps nothing else
pub record StartsOn (c : Content) (shelf : ℕ → List Row) (records : Records) (e : Engine) : Type 0 where
  pub leaves : (l : Leaf) → Contains e.hub.dir.leaves l → StartsOnDevice c shelf records e.hub.dir.leaves l
  pub unused : (id : ℕ) → e.hub.dir.next ≤ id → (key : List ℕ) → records id key ≡ []

-- ---- such a shelf

abbrev pub kept_of : Marks → List ℕ → Led → Option Leaf → List Row
kept_of m ids led None = []
kept_of m ids led (Some l) = seen_rows m ids (led l.table l.entry)

abbrev pub shelf_of : Marks → List ℕ → Led → List Leaf → ℕ → List Row
shelf_of m ids led leaves id = kept_of m ids led (leaf_named id leaves)

-- ---- such rows

-- the rows at the place of the first entry of this key
abbrev pub led_in : List Entry → List (List Row) → Entry → List Row
led_in [] leaves e = []
led_in (x ∷ entries) [] e = []
led_in (x ∷ entries) (rows ∷ leaves) e = if bytes_eq x.key e.key then rows else led_in entries leaves e

-- the rows to which the entries of tables lead that have these leaves
abbrev pub led_by : List TableEntries → List (List (List Row)) → Led
led_by [] all number = λ e. []
led_by (t ∷ tables) [] number = λ e. []
led_by (t ∷ tables) (leaves ∷ all) number = if t.table.number == number then led_in (entries_of t) leaves else led_by tables all number

-- each table has as many leaves as entries
abbrev pub HaveLeaves : List TableEntries → List (List (List Row)) → Type 0
HaveLeaves [] [] = Unit {0}
HaveLeaves [] (leaves ∷ all) = ⊥
HaveLeaves (t ∷ tables) [] = ⊥
HaveLeaves (t ∷ tables) (leaves ∷ all) = Climbs (entries_of t) × (length leaves ≡ length (entries_of t)) × HaveLeaves tables all

-- each entry of a table has its leaf, and these leaves are between the keys of their entries
pub record AreBorne (entries : List Entry) (leaves : List (List Row)) : Type 0 where
  pub table : AreTable entries
  pub bear : AllBear table_kind entries leaves
  pub stay : Stay entries leaves

abbrev pub AllBorne : List TableEntries → List (List (List Row)) → Type 0
AllBorne [] [] = Unit {0}
AllBorne [] (leaves ∷ all) = ⊥
AllBorne (t ∷ tables) [] = ⊥
AllBorne (t ∷ tables) (leaves ∷ all) = AreBorne (entries_of t) leaves × AllBorne tables all

-- the tables with all rows of these leaves
abbrev pub joined_tables : List TableEntries → List (List (List Row)) → List TableLeaf
joined_tables [] all = []
joined_tables (t ∷ tables) [] = []
joined_tables (t ∷ tables) (leaves ∷ all) = record { table = t.table; rows = join leaves } ∷ joined_tables tables all
