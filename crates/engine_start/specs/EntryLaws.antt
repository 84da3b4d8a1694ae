-- An engine that has read no leaf, and what the device has.
use Rattle.std.specs.Prelude.{◌≡◌, ◌≢◌, ℕ, true, List, [], ◌∷◌, map, None, Some}
use Rattle.std.specs.List.{AllByRecursion, Contains}
use Rattle.kv_model.specs.Allowed.{StampsFit}
use Rattle.kv_model.specs.Content.{Content}
use Rattle.kv_model.specs.History.{Placed, has_table}
use Rattle.kv_model.specs.Holds.{Member}
use Rattle.kv_model.specs.OpeningLaws.{cell_of}
use Rattle.kv_model.specs.Regular.{AllApart, IsRegular, SameNumber}
use Rattle.row_page.specs.Rows.{Row}
use Rattle.leaf_rows.specs.declared.marks.Marks.{Marks}
use Rattle.leaf_rows.specs.Rows.{AreFit}
use Rattle.reconcile.specs.Shows.{shown_at}
use Rattle.stored.specs.Tree.{IsTree, bottom}
use Rattle.stored.specs.TableTree.{TableTree, root_entry, table_kind}
use Rattle.tree_dir.specs.declared.leaf.Leaf.{Leaf}
use Rattle.tree_dir.specs.Leaves.{Directory, IsDirectory, leaf_under, no_leaves}
use Rattle.device_layout.specs.declared.link.Link.{Link}
use Rattle.catalog.specs.Opens.{AreRecorded}
use Rattle.engine_world.specs.Stands.{Engine, Stands}
use Rattle.engine_world.specs.Systems.{Begins, first_world}
use Rattle.engine_world.specs.Worlds.{Records}
use Rattle.engine_start.specs.declared.table_entries.TableEntries.{TableEntries}
use Rattle.engine_start.specs.Contents.{content_with, leaves_content_with}
use Rattle.engine_start.specs.Entries.{AllBorne, AreAdded, AreBorne, HaveLeaves, IsContentOf, IsParted, IsShelf, IsUnread, Led, StartsOn, entries_of, joined_tables, leaves_led, led_by, shelf_of, tables_of, whole_tables}

-- it begins on a content whose leaves start on the device
abbrev pub UnreadBegin : Type 0
UnreadBegin = (m : Marks) (led : Led) (c : Content) (shelf : ℕ → List Row) (records : Records) (tables : List TableEntries) (e : Engine) → AllApart SameNumber (tables_of tables) → AllByRecursion (IsParted led) tables
    → IsUnread m tables e → IsContentOf m tables c → StartsOn c shelf records e → Begins c shelf records e

-- and stands for the world with which that begins
abbrev pub UnreadStand : Type 0
UnreadStand = (m : Marks) (led : Led) (c : Content) (shelf : ℕ → List Row) (records : Records) (tables : List TableEntries) (e : Engine) → AllApart SameNumber (tables_of tables) → AllByRecursion (IsParted led) tables
    → IsUnread m tables e → IsContentOf m tables c → IsRegular c → StartsOn c shelf records e → Stands e (first_world c shelf records e)

-- so do those of a device without a history, where the shelf has what an opening keeps of each
abbrev pub BareLeavesStart : Type 0
BareLeavesStart = (m : Marks) (ids : List ℕ) (led : Led) (shelf : ℕ → List Row) (tables : List TableEntries) (e : Engine) → AllApart SameNumber (tables_of tables) → AllByRecursion (IsParted led) tables
    → IsUnread m tables e → IsShelf m ids led shelf e.hub.dir.leaves → StartsOn (leaves_content_with m ids (whole_tables led tables)) shelf (λ id key. []) e

-- the cell of a key is the row of the leaf in which it lies, which has no other keys
pub record IsLeafOfCells (led : Led) (c : Content) (leaves : List Leaf) (l : Leaf) : Type 0 where
  pub cells : (key : List ℕ) → leaf_under l.table key leaves ≡ Some l → cell_of c l.table key ≡ shown_at key (led l.table l.entry)
  pub bare : (key : List ℕ) → leaf_under l.table key leaves ≢ Some l → shown_at key (led l.table l.entry) ≡ None
  pub fit : AreFit (led l.table l.entry)
  pub known : has_table c.tables l.table ≡ true

abbrev pub LeavesHaveCells : Type 0
LeavesHaveCells = (m : Marks) (ids : List ℕ) (led : Led) (history : List Placed) (tables : List TableEntries) (e : Engine) → AllApart SameNumber (tables_of tables) → AllByRecursion (IsParted led) tables
    → IsUnread m tables e → (l : Leaf) → Contains e.hub.dir.leaves l → IsLeafOfCells led (content_with m ids (whole_tables led tables) history) e.hub.dir.leaves l

-- there is a shelf of the leaves of a directory
abbrev pub ShelvesAre : Type 0
ShelvesAre = (m : Marks) (ids : List ℕ) (led : Led) (d : Directory) → IsDirectory d → IsShelf m ids led (shelf_of m ids led d.leaves) d.leaves

-- there are rows to which the entries of tables lead
abbrev pub LeavesAreLed : Type 0
LeavesAreLed = (tables : List TableEntries) (all : List (List (List Row))) → AllApart SameNumber (tables_of tables) → HaveLeaves tables all → map (leaves_led (led_by tables all)) tables ≡ all

-- and by them the tables are parted, and whole
abbrev pub BorneArePart : Type 0
BorneArePart = (tables : List TableEntries) (all : List (List (List Row))) → AllApart SameNumber (tables_of tables) → AllBorne tables all → AllByRecursion (IsParted (led_by tables all)) tables × (whole_tables (led_by tables all) tables ≡ joined_tables tables all)

-- the entries of the leaves of a tree, and its leaves
abbrev pub TreesAreBorne : Type 0
TreesAreBorne = (level : ℕ) (link : Link) (t : TableTree) → IsTree table_kind level (root_entry link) t → AreBorne (bottom (root_entry link ∷ []) t.layers) t.leaves

-- each leaf is of one of the tables that were added, and of one of its entries
abbrev pub LeavesAreAdded : Type 0
LeavesAreAdded = (tables : List TableEntries) (d : Directory) (l : Leaf) → AllApart SameNumber (tables_of tables) → AreAdded no_leaves tables d → Contains d.leaves l
    → (t : TableEntries) × Member t tables × (l.table ≡ t.table.number) × Member l.entry (entries_of t)
