-- The checkpoint that is made of trees by place.
use Rattle.std.specs.Prelude.{◌≡◌, ℕ, zero, suc, List, [], ◌∷◌, ◌++◌, length, map, Option, Some, option_map, slice_get, refl}
use Rattle.std.specs.List.{AllByRecursion, flat_map}
use Rattle.std.proofs.Common.{inl, inr, sym, ◌∙◌, ap, subst, arith}
use Rattle.std.proofs.lemmas.List.{length-map}
use Rattle.std.proofs.lemmas.Option.{slice_get-map}
use Rattle.std.proofs.lemmas.Simd.{map-map}
use Rattle.block_mgr.specs.Blocks.{Books, Has}
use Rattle.device_layout.specs.declared.addr.Addr.{Addr}
use Rattle.kv_model.specs.History.{Table}
use Rattle.kv_model.specs.Holds.{Member}
use Rattle.kv_model.specs.Machine.{Checkpoint, Machine}
use Rattle.catalog.specs.Known.{NumbersAscend, by_name}
use Rattle.catalog.proofs.InOrder.{order_keeps}
use Rattle.stored.specs.Blocks.{Block, IsAddressed, IsAt, Apart}
use Rattle.stored.specs.Tree.{join, tree_blocks}
use Rattle.row_page.specs.Rows.{Row}
use Rattle.reconcile.specs.Shows.{shown_at}
use Rattle.stored.specs.HistoryTree.{HistoryRecord, HistoryTree}
use Rattle.stored.specs.Records.{TableRoot, Root, Record, IsRecord, record_image}
use Rattle.stored.specs.Stored.{AreTrees, tables_blocks, tables_of}
use Rattle.stored.specs.TableTree.{TableTree, root_entry, table_kind}
use Rattle.checkpoint_core.specs.Stands.{AreInUse, IsReady, body_blocks}
use Rattle.device_leaf.specs.NoHistory.{no_root}
use Rattle.tree_open.specs.declared.place.TreePlace.{TreePlace}
use Rattle.tree_open.specs.Trees.{HasTree, IsPlaceOf}
use Rattle.hist_open.specs.Trees.{HasHistory}
use Rattle.ckpt_content.specs.Checkpoints.{records_at}
use Rattle.ckpt_content.specs.Finished.{AreTakenOf, AreTakenRows, IsFinishOf, IsRecordThen, tables_then}
use Rattle.ckpt_content.specs.Laws.{TakenBeforeServes}
use Rattle.ckpt_step.specs.Grounds.{HasRoots}
use Rattle.ckpt_step.specs.Halves.{AreParted, TreesKeep, made_blocks, older_blocks}
use Rattle.ckpt_step.specs.Moments.{IsHistoryThen, Moment, RowsServe, TreesServe}
use Rattle.ckpt_step.specs.Rooms.{Written}
use Rattle.ckpt_step.specs.Sizes.{KeepsLeaves}
use Rattle.tree_dir.specs.declared.leaf.Leaf.{Leaf}
use Rattle.ckpt_step.proofs.Mapped.{map_at}
use Rattle.ckpt_step.specs.Records.{no_tree, of_number, roots_by_name, trees_by_name}
use Rattle.ckpt_step.specs.Runs.{made_of}
use Rattle.ckpt_step.specs.Trees.{AreTreesAt, HasTreeAt, roots_of, table_root, trees_blocks}
use Rattle.ckpt_step.proofs.CapturedOrder.{apart_join}
use Rattle.ckpt_step.proofs.Members.{all_made, all_of, flat_member, get_member, in_back, in_either, in_front, member_at, member_flat, none_some, some_same}
use Rattle.ckpt_step.proofs.OrderedByName.{all_by_name, apart_by_name, by_number, flat_all, length_by_name}
use Rattle.ckpt_step.proofs.Pairs.{apart_across, apart_back, apart_front}
use Rattle.ckpt_step.proofs.PlacedTrees.{all_both}

-- ---- by roots

abbrev root_tree : Root → TableTree → List Block
root_tree root tree = tree_blocks table_kind (root_entry root.link) tree

abbrev rooted_blocks : List Root → List TableTree → List Block
rooted_blocks [] trees = []
rooted_blocks (r ∷ roots) [] = []
rooted_blocks (r ∷ roots) (tree ∷ trees) = root_tree r tree ++ rooted_blocks roots trees

blocks_rooted : (places : List TreePlace) (trees : List TableTree) → trees_blocks places trees ≡ rooted_blocks (roots_of places) trees
blocks_rooted [] trees = refl
blocks_rooted (p ∷ places) [] = refl
blocks_rooted (p ∷ places) (tree ∷ trees) = ap (λ (l : List Block). root_tree p.root tree ++ l) (blocks_rooted places trees)

abbrev RootedAt : List ℕ → List Root → List TableTree → Type 0
RootedAt bytes [] [] = Unit {0}
RootedAt bytes [] (tree ∷ trees) = ⊥
RootedAt bytes (r ∷ roots) [] = ⊥
RootedAt bytes (r ∷ roots) (tree ∷ trees) = HasTree bytes r tree × RootedAt bytes roots trees

rooted_at : (bytes : List ℕ) (places : List TreePlace) (trees : List TableTree) → AreTreesAt bytes places trees → RootedAt bytes (roots_of places) trees
rooted_at bytes [] [] are = tt
rooted_at bytes [] (tree ∷ trees) are = absurd are
rooted_at bytes (p ∷ places) [] are = absurd are
rooted_at bytes (p ∷ places) (tree ∷ trees) are = (are.0, rooted_at bytes places trees are.2)

-- ---- roots and trees that are told of each table

module _ (R : Table → Root) (W : Table → TableTree) where
  abbrev pub blocks_of_table : Table → List Block
  blocks_of_table t = root_tree (R t) (W t)

  trees_each : (bytes : List ℕ) (tables : List Table) → RootedAt bytes (map R tables) (map W tables) → AllByRecursion (λ (t : Table). HasTree bytes (R t) (W t)) tables
  trees_each bytes [] are = tt
  trees_each bytes (t ∷ tables) are = (are.0, trees_each bytes tables are.1)

  blocks_are : (tables : List Table) → rooted_blocks (map R tables) (map W tables) ≡ flat_map blocks_of_table tables
  blocks_are [] = refl
  blocks_are (t ∷ tables) = ap (λ (l : List Block). root_tree (R t) (W t) ++ l) (blocks_are tables)

  tables_blocks_are : (tables : List Table) → tables_blocks (map (λ (t : Table). table_root t (R t)) tables) (map W tables) ≡ flat_map blocks_of_table tables
  tables_blocks_are [] = refl
  tables_blocks_are (t ∷ tables) = ap (λ (l : List Block). root_tree (R t) (W t) ++ l) (tables_blocks_are tables)

  trees_of : (bytes : List ℕ) (tables : List Table) → AllByRecursion (λ (t : Table). HasTree bytes (R t) (W t)) tables → AreTrees (map (λ (t : Table). table_root t (R t)) tables) (map W tables)
  trees_of bytes [] all = tt
  trees_of bytes (t ∷ tables) all = (all.0.is, trees_of bytes tables all.1)

  addressed_each : (bytes : List ℕ) (tables : List Table) → AllByRecursion (λ (t : Table). HasTree bytes (R t) (W t)) tables → AllByRecursion (λ (t : Table). AllByRecursion (λ (b : Block). IsAddressed b) (blocks_of_table t)) tables
  addressed_each bytes [] all = tt
  addressed_each bytes (t ∷ tables) all = (all.0.addressed, addressed_each bytes tables all.1)

  held_each : (bytes : List ℕ) (tables : List Table) → AllByRecursion (λ (t : Table). HasTree bytes (R t) (W t)) tables → AllByRecursion (λ (t : Table). AllByRecursion (λ (b : Block). IsAt bytes b) (blocks_of_table t)) tables
  held_each bytes [] all = tt
  held_each bytes (t ∷ tables) all = (all.0.holds, held_each bytes tables all.1)

  serve_each : (n : Moment) (tables : List Table) → TreesServe n tables (map W tables) → AllByRecursion (λ (t : Table). RowsServe n t (join (W t).leaves)) tables
  serve_each n [] are = tt
  serve_each n (t ∷ tables) are = (are.0, serve_each n tables are.1)

  taken_all : (m : Machine) (c : Checkpoint) (records : List HistoryRecord) (tables : List Table) → AllByRecursion (λ (t : Table). AreTakenRows m c records t (join (W t).leaves)) tables → AreTakenOf m c records tables (map W tables)
  taken_all m c records [] all = tt
  taken_all m c records (t ∷ tables) all = (all.0, taken_all m c records tables all.1)

-- rows that serve are taken, with the records that are written behind them
taken_rows : (law : TakenBeforeServes) (n : Moment) (records : List HistoryRecord) (t : Table) (rows : List Row) → IsHistoryThen n records → Member t (tables_then n.world.machine n.checkpoint) → RowsServe n t rows → AreTakenRows n.world.machine n.checkpoint records t rows
taken_rows law n records t rows older stood serve = record {
  fit = serve.fit;
  captured = λ key.
      let own = serve.serve key in
      law n.world.machine n.checkpoint t.number key (n.cells t.number key) (shown_at key rows) (records_at t.number key records) (older.taken t stood key) own.there own.top own.below;
}

map_same : (tables : List Table) → map (λ (t : Table). t) tables ≡ tables
map_same [] = refl
map_same (t ∷ tables) = ap (λ (l : List Table). t ∷ l) (map_same tables)

pub tables_of_roots : (known : List Table) (roots : List Root) → tables_of (roots_by_name known roots) ≡ by_name known
tables_of_roots known roots = map-map (λ (r : TableRoot). r.table) (λ (t : Table). table_root t (of_number no_root known roots t.number)) (by_name known) ∙ map_same (by_name known)

-- ---- by place

pub count_trees : (bytes : List ℕ) (places : List TreePlace) (trees : List TableTree) → AreTreesAt bytes places trees → length trees ≡ length places
count_trees bytes [] [] are = refl
count_trees bytes [] (tree ∷ trees) are = absurd are
count_trees bytes (p ∷ places) [] are = absurd are
count_trees bytes (p ∷ places) (tree ∷ trees) are = omega (arith, count_trees bytes places trees are.2)

-- the tree at a place
pub tree_there : (bytes : List ℕ) (places : List TreePlace) (trees : List TableTree) (i : ℕ) (p : TreePlace) → AreTreesAt bytes places trees → slice_get places i ≡ Some p → (tree : TableTree) × (slice_get trees i ≡ Some tree) × HasTree bytes p.root tree × IsPlaceOf p tree
tree_there bytes [] trees i p are at = absurd (none_some at)
tree_there bytes (q ∷ places) [] i p are at = absurd are
tree_there bytes (q ∷ places) (tree ∷ trees) zero p are at = (tree, refl, subst (λ (x : TreePlace). HasTree bytes x.root tree) (some_same at) are.0, subst (λ (x : TreePlace). IsPlaceOf x tree) (some_same at) are.1)
tree_there bytes (q ∷ places) (tree ∷ trees) (suc i) p are at = tree_there bytes places trees i p are.2 at

module _ (known : List Table) (next : ℕ) (ascend : NumbersAscend 1 known next) (places : List TreePlace) (trees : List TableTree) (count : length places ≡ length known) (bytes : List ℕ) (there : AreTreesAt bytes places trees) where
  abbrev pub root_at : Table → Root
  root_at t = of_number no_root known (roots_of places) t.number

  abbrev pub tree_at : Table → TableTree
  tree_at t = of_number no_tree known trees t.number

  roots_are : map root_at known ≡ roots_of places
  roots_are = by_number no_root known (roots_of places) 1 next ascend (length-map places (λ (p : TreePlace). p.root) ∙ count)

  pub trees_are : map tree_at known ≡ trees
  trees_are = by_number no_tree known trees 1 next ascend (count_trees bytes places trees there ∙ count)

  abbrev pub table_blocks : Table → List Block
  table_blocks t = blocks_of_table root_at tree_at t

  pub all_blocks : trees_blocks places trees ≡ flat_map table_blocks known
  all_blocks = blocks_rooted places trees ∙ (sym (ap (λ (l : List Root). rooted_blocks l trees) roots_are) ∙ (sym (ap (λ (l : List TableTree). rooted_blocks (map root_at known) l) trees_are) ∙ blocks_are root_at tree_at known))

  there_each : AllByRecursion (λ (t : Table). HasTree bytes (root_at t) (tree_at t)) known
  there_each = trees_each root_at tree_at bytes known (subst (λ (l : List Root). RootedAt bytes l (map tree_at known)) (sym roots_are) (subst (λ (l : List TableTree). RootedAt bytes (roots_of places) l) (sym trees_are) (rooted_at bytes places trees there)))

  by_name_each : AllByRecursion (λ (t : Table). HasTree bytes (root_at t) (tree_at t)) (by_name known)
  by_name_each = all_by_name (λ (t : Table). HasTree bytes (root_at t) (tree_at t)) known there_each

  -- what is taken of the machine, in the order of the names
  pub taken_by_name : TakenBeforeServes → (n : Moment) (records : List HistoryRecord) → IsHistoryThen n records → ((t : Table) → Member t known → Member t (tables_then n.world.machine n.checkpoint)) → TreesServe n known trees → AreTakenOf n.world.machine n.checkpoint records (by_name known) (trees_by_name known trees)
  taken_by_name law n records older stood are =
      let each = serve_each root_at tree_at n known (subst (λ (l : List TableTree). TreesServe n known l) (sym trees_are) are) in
      taken_all root_at tree_at n.world.machine n.checkpoint records (by_name known) (all_by_name (λ (t : Table). AreTakenRows n.world.machine n.checkpoint records t (join (tree_at t).leaves)) known
      (all_made (λ (t : Table). AreTakenRows n.world.machine n.checkpoint records t (join (tree_at t).leaves)) known (λ t there.
      taken_rows law n records t (join (tree_at t).leaves) older (stood t there) (all_of (λ (x : Table). RowsServe n x (join (tree_at x).leaves)) known t each there))))

  -- what a table has by number it has by place
  pub root_is : (i : ℕ) (t : Table) (p : TreePlace) → slice_get known i ≡ Some t → slice_get places i ≡ Some p → root_at t ≡ p.root
  root_is i t p at stands = some_same (sym (slice_get-map root_at known i ∙ ap (λ (o : Option Table). option_map root_at o) at) ∙ (ap (λ (l : List Root). slice_get l i) roots_are ∙ (slice_get-map {A = TreePlace} (λ q. q.root) places i ∙ ap (λ (o : Option TreePlace). option_map (λ q. q.root) o) stands)))

  pub tree_is : (i : ℕ) (t : Table) (tree : TableTree) → slice_get known i ≡ Some t → slice_get trees i ≡ Some tree → tree_at t ≡ tree
  tree_is i t tree at stands = some_same (sym (slice_get-map tree_at known i ∙ ap (λ (o : Option Table). option_map tree_at o) at) ∙ (ap (λ (l : List TableTree). slice_get l i) trees_are ∙ stands))

  module _ (r : Record) (history : HistoryTree) (a : Addr) (tables : r.tables ≡ roots_by_name known (roots_of places)) where
    pub tables_are : tables_blocks r.tables (trees_by_name known trees) ≡ flat_map table_blocks (by_name known)
    tables_are = ap (λ (l : List TableRoot). tables_blocks l (trees_by_name known trees)) tables ∙ tables_blocks_are root_at tree_at (by_name known)

    abbrev older : List Block
    older = older_blocks r.history history

    abbrev named : List Block
    named = flat_map table_blocks (by_name known)

    body_are : body_blocks (made_of r known trees history a) ≡ named ++ older
    body_are = ap (λ (l : List Block). l ++ older) tables_are

    -- the blocks of the tables are as many, in the order of names or in that of places
    named_in : (b : Block) → Member b named → Member b (trees_blocks places trees)
    named_in b there =
        let t = member_flat table_blocks (by_name known) b there in
        subst (λ (l : List Block). Member b l) (sym all_blocks) (flat_member table_blocks t.0 known b ((order_keeps known t.0).0 t.1) t.2)

    pub made_ready : (image : List ℕ) (books : Books) → IsRecord r → image ≡ record_image r → HasHistory bytes r.history history → AreInUse books.cells (made_blocks places trees r.history history) → Apart (made_blocks places trees r.history history) → IsReady bytes books image (made_of r known trees history a)
    made_ready image books admitted spelled has in_use apart = record {
      is_record = admitted;
      is_image = spelled;
      trees = subst (λ (l : List TableRoot). AreTrees l (trees_by_name known trees)) (sym tables) (trees_of root_at tree_at bytes (by_name known) by_name_each);
      history = has.is;
      addressed = subst (λ (l : List Block). AllByRecursion (λ (b : Block). IsAddressed b) l) (sym body_are) (all_both (λ (b : Block). IsAddressed b) named older (flat_all table_blocks (λ (b : Block). IsAddressed b) (by_name known) (addressed_each root_at tree_at bytes (by_name known) by_name_each)) has.addressed);
      apart = subst Apart (sym body_are) (apart_join named older (apart_by_name table_blocks known (subst Apart all_blocks (apart_front (trees_blocks places trees) older apart))) (apart_back (trees_blocks places trees) older apart) (λ b c there also. apart_across (trees_blocks places trees) older b c apart (named_in b there) also));
      holds = subst (λ (l : List Block). AllByRecursion (λ (b : Block). IsAt bytes b) l) (sym body_are) (all_both (λ (b : Block). IsAt bytes b) named older (flat_all table_blocks (λ (b : Block). IsAt bytes b) (by_name known) (held_each root_at tree_at bytes (by_name known) by_name_each)) has.holds);
      in_use = subst (λ (l : List Block). AreInUse books.cells l) (sym body_are) (all_made (λ (b : Block). Has books.cells b.place.offset b.place.size) (named ++ older) (λ b there.
          all_of (λ (x : Block). Has books.cells x.place.offset x.place.size) (made_blocks places trees r.history history) b in_use (elim (in_either named older b there) [
            | inl own ↦ in_front (trees_blocks places trees) older b (named_in b own)
            | inr its ↦ in_back (trees_blocks places trees) older b its
          ])));
    }

    pub made_is : TakenBeforeServes → (n : Moment) (number : ℕ) → ((t : Table) → Member t known → Member t (tables_then n.world.machine n.checkpoint)) → IsRecordThen n.world.machine n.checkpoint number r → TreesServe n known trees → IsHistoryThen n (join history.leaves) → IsFinishOf n.world.machine n.checkpoint number (made_of r known trees history a)
    made_is law n number stood is are its = record {
      names = is;
      rows = subst (λ (l : List Table). AreTakenOf n.world.machine n.checkpoint (join history.leaves) l (trees_by_name known trees)) (sym (ap tables_of tables ∙ tables_of_roots known (roots_of places))) (taken_by_name law n (join history.leaves) its stood are);
      known = its.known;
    }

    -- the tree of a table is that of the checkpoint
    pub made_tree : (i : ℕ) (t : Table) (p : TreePlace) → slice_get known i ≡ Some t → slice_get places i ≡ Some p → (tree : TableTree) × (slice_get trees i ≡ Some tree) × HasTreeAt (Some (made_of r known trees history a)) t p tree
    made_tree i t p at stands =
        let one = tree_there bytes places trees i p there stands in
        let j = member_at t (by_name known) ((order_keeps known t).1 (get_member known i t at)) in
        let root : slice_get r.tables j.0 ≡ Some (table_root t p.root) =
        ap (λ (l : List TableRoot). slice_get l j.0) tables ∙ (slice_get-map (λ (u : Table). table_root u (root_at u)) (by_name known) j.0 ∙ (ap (λ (o : Option Table). option_map (λ (u : Table). table_root u (root_at u)) o) j.1 ∙ ap (λ (x : Root). Some (table_root t x)) (root_is i t p at stands))) in
        let tree : slice_get (trees_by_name known trees) j.0 ≡ Some one.0 =
        slice_get-map tree_at (by_name known) j.0 ∙ (ap (λ (o : Option Table). option_map tree_at o) j.1 ∙ ap (λ (x : TableTree). Some x) (tree_is i t one.0 at one.1)) in
        (one.0, one.1, ((j.0, root, tree), one.3))

    -- the tree that the checkpoint has of a table is that of the table's place
    pub made_at : (i : ℕ) (t : Table) (p : TreePlace) (tree : TableTree) → slice_get known i ≡ Some t → slice_get places i ≡ Some p → HasTreeAt (Some (made_of r known trees history a)) t p tree → slice_get trees i ≡ Some tree
    made_at i t p tree at stands has =
        let u = map_at (λ (x : Table). table_root x (root_at x)) (by_name known) has.0.0 (table_root t p.root) (ap (λ (l : List TableRoot). slice_get l has.0.0) (sym tables) ∙ has.0.1) in
        let x = map_at tree_at (by_name known) has.0.0 tree has.0.2 in
        let same : t ≡ x.0 = ap (λ (q : TableRoot). q.table) (sym u.2) ∙ some_same (sym u.1 ∙ x.1) in
        let one = tree_there bytes places trees i p there stands in
        one.1 ∙ ap (λ (y : TableTree). Some y) (sym (tree_is i t one.0 at one.1) ∙ (ap tree_at same ∙ x.2))

    pub made_roots : (leaves : List Leaf) (written : Written) → AreParted known leaves written places trees → HasRoots known [] leaves written places (made_of r known trees history a)
    made_roots leaves written parted = record {
      few = omega (arith, count);
      count = ap length tables ∙ (length-map (by_name known) (λ (t : Table). table_root t (of_number no_root known (roots_of places) t.number)) ∙ (length_by_name known ∙ sym count));
      trees = λ i t p at stands. let one = made_tree i t p at stands in (one.0, one.2, parted i t p one.0 at stands one.1);
    }

    -- an image that did not change keeps its block
    pub made_keeps : (seen : List ℕ) (leaves : List Leaf) (before written : Written) → TreesKeep seen known leaves before places trees written → KeepsLeaves seen known leaves before (made_of r known trees history a) places written
    made_keeps seen leaves before written keep i t p tree l at stands has mine its = keep i t p tree l at stands (made_at i t p tree at stands has) mine its
