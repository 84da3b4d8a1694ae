-- The tables of a device with the entries of their leaves, and with all rows of these: what the device holds.
use Rattle.std.proofs.Common.{◌≡◌, ℕ, List, [], ◌∷◌, ◌++◌, length, map, None, refl, sym, ap, subst, ◌∙◌, arith}
use Rattle.std.specs.List.{AllByRecursion}
use Rattle.std.specs.Prelude.{Vec}
use Rattle.std.specs.declared.alloc.Global.{Global}
use Rattle.device_layout.specs.declared.slot.Slot.{Slot}
use Rattle.kv_model.specs.Content.{Content}
use Rattle.kv_model.specs.History.{Placed, Table}
use Rattle.row_page.specs.Rows.{Row}
use Rattle.stored.specs.Records.{Record, TableRoot}
use Rattle.stored.specs.Stored.{content_of, cells_in as stored_cells, placed_in, tables_of as record_tables}
use Rattle.stored.specs.HistoryTree.{HistoryRecord, HistoryTree, record_in}
use Rattle.stored.specs.Tree.{bottom, join}
use Rattle.stored.specs.TableTree.{Climbs, Entry, TableTree, root_entry}
use Rattle.tree_open.specs.declared.place.Upper.{Upper}
use Rattle.recover_open.specs.Bare.{AllClimb, HaveTrees, marks_of, stored_with}
use Rattle.recover_open.specs.Leaves.{AreLeaves}
use Rattle.recover_open.proofs.TreeLeaves.{tree_leaves}
use Rattle.engine_start.specs.declared.table_entries.TableEntries.{TableEntries}
use Rattle.engine_start.specs.Contents.{cells_in, content_with, tables_in}
use Rattle.engine_start.specs.Entries.{AllBorne, AreBorne, Led, entries_of, joined_tables, leaves_led, tables_of}
use Rattle.engine_start.proofs.LedRows.{tree_borne}
use Rattle.engine_store.specs.Tables.{AreWithEntries, IsWithEntries}
use Rattle.engine_store.proofs.SurveyedTrees.{AreUppersOf}

-- ---- the tables

pub tables_with : (both : List TableEntries) (tables : List TableRoot) (uppers : List Upper) → AreWithEntries both tables uppers → tables_of both ≡ record_tables tables
tables_with [] [] [] with = refl
tables_with [] [] (u ∷ uppers) with = absurd with
tables_with [] (r ∷ tables) uppers with = absurd with
tables_with (t ∷ both) [] uppers with = absurd with
tables_with (t ∷ both) (r ∷ tables) [] with = absurd with
tables_with (t ∷ both) (r ∷ tables) (u ∷ uppers) with =
    ap (λ (x : Table). x ∷ tables_of both) with.0.table ∙ ap (λ (l : List Table). r.table ∷ l) (tables_with both tables uppers with.1)

pub entries_with : (t : TableEntries) (r : TableRoot) (u : Upper) → IsWithEntries t r u → entries_of t ≡ u.entries.items
entries_with t r u with = ap (λ (v : Vec Entry Global). v.items) with.entries

pub climb_with : (both : List TableEntries) (tables : List TableRoot) (uppers : List Upper) → AreWithEntries both tables uppers → AllClimb uppers → AllByRecursion (λ (t : TableEntries). Climbs (entries_of t)) both
climb_with [] tables uppers with climb = tt
climb_with (t ∷ both) [] uppers with climb = absurd with
climb_with (t ∷ both) (r ∷ tables) [] with climb = absurd with
climb_with (t ∷ both) (r ∷ tables) (u ∷ uppers) with climb = (subst Climbs (sym (entries_with t r u with.0)) climb.0, climb_with both tables uppers with.1 climb.1)

-- ---- the leaves of their trees

abbrev pub leaves_in : List TableTree → List (List (List Row))
leaves_in trees = map {A = TableTree} (λ t. t.leaves) trees

-- the device has each of these leaves
abbrev AllLeaves : List ℕ → List TableEntries → List (List (List Row)) → Type 0
AllLeaves bytes [] [] = Unit {0}
AllLeaves bytes [] (leaves ∷ all) = ⊥
AllLeaves bytes (t ∷ both) [] = ⊥
AllLeaves bytes (t ∷ both) (leaves ∷ all) = AreLeaves bytes (entries_of t) None leaves × AllLeaves bytes both all

module _ (bytes : List ℕ) where
  entries_are : (t : TableEntries) (r : TableRoot) (u : Upper) (tree : TableTree) → IsWithEntries t r u → u.entries.items ≡ bottom (root_entry r.root.link ∷ []) tree.layers → bottom (root_entry r.root.link ∷ []) tree.layers ≡ entries_of t
  entries_are t r u tree with is = sym (entries_with t r u with ∙ is)

  pub all_borne : (both : List TableEntries) (tables : List TableRoot) (uppers : List Upper) (trees : List TableTree) → AreWithEntries both tables uppers → HaveTrees bytes tables trees → AreUppersOf tables uppers trees → AllBorne both (leaves_in trees)
  all_borne [] [] [] [] with have are = tt
  all_borne [] [] [] (tree ∷ trees) with have are = absurd have
  all_borne [] [] (u ∷ uppers) trees with have are = absurd with
  all_borne [] (r ∷ tables) uppers trees with have are = absurd with
  all_borne (t ∷ both) [] uppers trees with have are = absurd with
  all_borne (t ∷ both) (r ∷ tables) [] trees with have are = absurd with
  all_borne (t ∷ both) (r ∷ tables) (u ∷ uppers) [] with have are = absurd have
  all_borne (t ∷ both) (r ∷ tables) (u ∷ uppers) (tree ∷ trees) with have are = (
    subst (λ (es : List Entry). AreBorne es tree.leaves) (entries_are t r u tree with.0 are.0.entries) (tree_borne r.root.level r.root.link tree have.0.is),
    all_borne both tables uppers trees with.1 have.1 are.1,
  )

  pub all_leaves : (both : List TableEntries) (tables : List TableRoot) (uppers : List Upper) (trees : List TableTree) → AreWithEntries both tables uppers → HaveTrees bytes tables trees → AreUppersOf tables uppers trees → AllLeaves bytes both (leaves_in trees)
  all_leaves [] [] [] [] with have are = tt
  all_leaves [] [] [] (tree ∷ trees) with have are = absurd have
  all_leaves [] [] (u ∷ uppers) trees with have are = absurd with
  all_leaves [] (r ∷ tables) uppers trees with have are = absurd with
  all_leaves (t ∷ both) [] uppers trees with have are = absurd with
  all_leaves (t ∷ both) (r ∷ tables) [] trees with have are = absurd with
  all_leaves (t ∷ both) (r ∷ tables) (u ∷ uppers) [] with have are = absurd have
  all_leaves (t ∷ both) (r ∷ tables) (u ∷ uppers) (tree ∷ trees) with have are = (
    subst (λ (es : List Entry). AreLeaves bytes es None tree.leaves) (entries_are t r u tree with.0 are.0.entries) (tree_leaves bytes r.root tree have.0),
    all_leaves both tables uppers trees with.1 have.1 are.1,
  )

  -- where these rows are led to
  pub leaves_by : (led : Led) (both : List TableEntries) (all : List (List (List Row))) → map (leaves_led led) both ≡ all → AllLeaves bytes both all → AllByRecursion (λ (t : TableEntries). AreLeaves bytes (entries_of t) None (leaves_led led t)) both
  leaves_by led [] all same there = tt
  leaves_by led (t ∷ both) [] same there = absurd there
  leaves_by led (t ∷ both) (leaves ∷ all) same there =
      let first : leaves_led led t ≡ leaves = cc in
      let others : map (leaves_led led) both ≡ all = cc in
      (subst (λ (ls : List (List Row)). AreLeaves bytes (entries_of t) None ls) (sym first) there.0, leaves_by led both all others there.1)

-- ---- the content

tables_joined : (both : List TableEntries) (tables : List TableRoot) (uppers : List Upper) (trees : List TableTree) → AreWithEntries both tables uppers → length trees ≡ length tables → tables_in (joined_tables both (leaves_in trees)) ≡ record_tables tables
tables_joined [] [] [] trees with many = refl
tables_joined [] [] (u ∷ uppers) trees with many = absurd with
tables_joined [] (r ∷ tables) uppers trees with many = absurd with
tables_joined (t ∷ both) [] uppers trees with many = absurd with
tables_joined (t ∷ both) (r ∷ tables) [] trees with many = absurd with
tables_joined (t ∷ both) (r ∷ tables) (u ∷ uppers) [] with many = absurd (omega (arith, many))
tables_joined (t ∷ both) (r ∷ tables) (u ∷ uppers) (tree ∷ trees) with many =
    ap (λ (x : Table). x ∷ tables_in (joined_tables both (leaves_in trees))) with.0.table ∙ ap (λ (l : List Table). r.table ∷ l) (tables_joined both tables uppers trees with.1 (omega (arith, many)))

cells_joined : (both : List TableEntries) (tables : List TableRoot) (uppers : List Upper) (trees : List TableTree) → AreWithEntries both tables uppers → cells_in (joined_tables both (leaves_in trees)) ≡ stored_cells tables trees
cells_joined [] [] [] trees with = refl
cells_joined [] [] (u ∷ uppers) trees with = absurd with
cells_joined [] (r ∷ tables) uppers trees with = absurd with
cells_joined (t ∷ both) [] uppers trees with = absurd with
cells_joined (t ∷ both) (r ∷ tables) [] trees with = absurd with
cells_joined (t ∷ both) (r ∷ tables) (u ∷ uppers) [] with = refl
cells_joined (t ∷ both) (r ∷ tables) (u ∷ uppers) (tree ∷ trees) with =
    ap (λ (x : Table). placed_in x.number (join tree.leaves) ++ cells_in (joined_tables both (leaves_in trees))) with.0.table ∙ ap (λ (c : List Placed). placed_in r.table.number (join tree.leaves) ++ c) (cells_joined both tables uppers trees with.1)

-- as the content of a device
abbrev recorded : Record → List Table → List Placed → HistoryTree → Content
recorded r tables cells history = record {
  run = r.run;
  oldest = r.oldest;
  stable = r.stable;
  snapshot = r.snapshot;
  tables = tables;
  cells = cells;
  records = map {A = HistoryRecord} record_in (join history.leaves);
}

pub content_joined : (slot : Slot) (r : Record) (both : List TableEntries) (uppers : List Upper) (trees : List TableTree) (history : HistoryTree) → AreWithEntries both r.tables uppers → length trees ≡ length r.tables
    → content_with (marks_of r) r.snapshot.ids (joined_tables both (leaves_in trees)) (map {A = HistoryRecord} record_in (join history.leaves)) ≡ content_of (stored_with slot r trees history)
content_joined slot r both uppers trees history with many =
    ap (λ (l : List Table). recorded r l (cells_in (joined_tables both (leaves_in trees))) history) (tables_joined both r.tables uppers trees with many)
    ∙ ap (λ (c : List Placed). recorded r (record_tables r.tables) c history) (cells_joined both r.tables uppers trees with)

pub have_many : (bytes : List ℕ) (tables : List TableRoot) (trees : List TableTree) → HaveTrees bytes tables trees → length trees ≡ length tables
have_many bytes [] [] have = refl
have_many bytes [] (tree ∷ trees) have = absurd have
have_many bytes (t ∷ tables) [] have = absurd have
have_many bytes (t ∷ tables) (tree ∷ trees) have = omega (arith, have_many bytes tables trees have.1)

pub many_with : (both : List TableEntries) (tables : List TableRoot) (uppers : List Upper) → AreWithEntries both tables uppers → length both ≡ length tables
many_with [] [] uppers with = refl
many_with [] (r ∷ tables) uppers with = absurd with
many_with (t ∷ both) [] uppers with = absurd with
many_with (t ∷ both) (r ∷ tables) [] with = absurd with
many_with (t ∷ both) (r ∷ tables) (u ∷ uppers) with = omega (arith, many_with both tables uppers with.1)
