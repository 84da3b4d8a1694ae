-- The trees of a device that was surveyed are those of an engine's tables, each by the parts of the table's leaves.
use Rattle.std.proofs.Common.{◌≡◌, ◌≤◌, ℕ, zero, suc, List, [], ◌∷◌, length, reverse, Some, refl, sym, ap, subst, ◌∙◌, inl, inr, arith}
use Rattle.std.specs.Prelude.{slice_get}
use Rattle.std.proofs.lemmas.Option.{slice_get_within}
use Rattle.block_mgr.specs.Blocks.{Has}
use Rattle.block_mgr.proofs.HasLemmas.{used_some}
use Rattle.device_leaf.specs.declared.place.Place.{Place}
use Rattle.kv_model.specs.Content.{descending, table_lt}
use Rattle.kv_model.specs.History.{Table}
use Rattle.kv_model.specs.Holds.{Member}
use Rattle.stored.specs.Blocks.{Block, IsAddressed, IsAt}
use Rattle.stored.specs.Links.{LinkFits}
use Rattle.stored.specs.Records.{IsRecord, Record, TableFits, TableRoot}
use Rattle.stored.specs.Stored.{Stored, history_blocks, stored_blocks, tables_blocks, tables_of as record_tables}
use Rattle.stored.specs.TableTree.{Entry, TableTree, table_kind}
use Rattle.stored.specs.Tree.{bottom, inner_blocks, leaf_blocks}
use Rattle.tree_dir.specs.Leaves.{Directory, IsDirectory, leaves_of}
use Rattle.tree_open.specs.declared.place.TreePlace.{TreePlace}
use Rattle.tree_open.specs.declared.place.Upper.{Upper}
use Rattle.tree_open.specs.Trees.{HasTree, root_own}
use Rattle.tree_write.specs.Writes.{LeadApart}
use Rattle.recover_open.specs.Bare.{ArePlaces}
use Rattle.recover_open.specs.declared.wholes.Whole.{Whole}
use Rattle.engine_start.specs.declared.table_entries.TableEntries.{TableEntries}
use Rattle.engine_start.specs.Entries.{entries_of}
use Rattle.ckpt_step.specs.Grounds.{AreWritten, HasRoots}
use Rattle.ckpt_step.specs.Parts.{IsParted}
use Rattle.ckpt_step.specs.Rooms.{known_in}
use Rattle.ckpt_step.specs.Trees.{HasTreeAt, IsPair, table_root}
use Rattle.ckpt_step.proofs.Members.{all_of, get_member, get_within, in_back, in_front, none_some, some_same}
use Rattle.ckpt_step.proofs.Pairs.{apart_back, apart_front, lead_apart, pair_apart, pair_blocks, pair_on}
use Rattle.engine_store.specs.ByPlace.{places_in}
use Rattle.engine_store.specs.Tables.{AreWithEntries}
use Rattle.engine_store.proofs.BorneTables.{entries_with}
use Rattle.engine_store.proofs.LeafBehind.{entries_in}
use Rattle.engine_store.proofs.OpenedParts.{parted}
use Rattle.engine_store.proofs.PlacedTrees.{length_known, length_places, tree_at}
use Rattle.engine_store.proofs.SurveyedTrees.{AreUppersOf, IsSurveyedOf, old_of}

-- ---- a table and its tree, by the entries of the table

-- the entries of a table among these lead to the leaves of its tree
pub record HasEntries (both : List TableEntries) (r : TableRoot) (tree : TableTree) : Type 0 where
  pub its : TableEntries
  pub among : Member its both
  pub table : its.table ≡ r.table
  pub entries : entries_of its ≡ bottom (root_own r.root) tree.layers

pub pair_entries : (both : List TableEntries) (tables : List TableRoot) (uppers : List Upper) (trees : List TableTree) (r : TableRoot) (tree : TableTree) → AreWithEntries both tables uppers → AreUppersOf tables uppers trees → IsPair r tree tables trees → HasEntries both r tree
pair_entries both tables uppers trees r tree with are (i, at, also) = by i both tables uppers trees with are at also
  where
    by : (i : ℕ) (both : List TableEntries) (tables : List TableRoot) (uppers : List Upper) (trees : List TableTree) → AreWithEntries both tables uppers → AreUppersOf tables uppers trees → slice_get tables i ≡ Some r → slice_get trees i ≡ Some tree → HasEntries both r tree
    by i both [] uppers trees with are at also = absurd (none_some at)
    by i [] (x ∷ tables) uppers trees with are at also = absurd with
    by i (t ∷ both) (x ∷ tables) [] trees with are at also = absurd with
    by i (t ∷ both) (x ∷ tables) (u ∷ uppers) [] with are at also = absurd (none_some also)
    by zero (t ∷ both) (x ∷ tables) (u ∷ uppers) (y ∷ trees) with are at also =
        let root : x ≡ r = some_same at in
        let its : y ≡ tree = some_same also in
        record {
          its = t;
          among = inl refl;
          table = with.0.table ∙ ap (λ (z : TableRoot). z.table) root;
          entries = entries_with t x u with.0 ∙ (are.0.entries ∙ (ap (λ (z : TableRoot). bottom (root_own z.root) y.layers) root ∙ ap (λ (z : TableTree). bottom (root_own r.root) z.layers) its));
        }
    by (suc i) (t ∷ both) (x ∷ tables) (u ∷ uppers) (y ∷ trees) with are at also =
        let later = by i both tables uppers trees with.1 are.1 at also in
        record { its = later.its; among = inr later.among; table = later.table; entries = later.entries }

-- ---- on the device

module _ (bytes : List ℕ) (place : Place) (a : Whole) (is_record : IsRecord a.record) (of : IsSurveyedOf bytes place a) where
  abbrev r : Record
  r = a.record

  abbrev old : Stored
  old = old_of bytes place a of

  abbrev blocks : List Block
  blocks = tables_blocks r.tables of.trees

  in_all : (b : Block) → Member b blocks → Member b (stored_blocks old)
  in_all b there = inr (in_front blocks (history_blocks r old.history) b there)

  some_size : (b : Block) → Member b blocks → 1 ≤ b.place.size
  some_size b there =
      let used = all_of (λ (x : Block). Has place.blocks.cells x.place.offset x.place.size) (stored_blocks old) b of.serves.in_use (in_all b there) in
      omega (arith, used.2, used_some place.blocks.cells place.blocks.space used.0 of.books.has.units used.3)

  -- a tree of a table is there
  pub tree_there : (t : Table) (p : TreePlace) (tree : TableTree) → HasTreeAt (Some old) t p tree → HasTree bytes p.root tree
  tree_there t p tree at =
      pair_on bytes (table_root t p.root) tree r.tables of.trees at.0 of.serves.still.whole.trees
      (λ b there. all_of (λ (x : Block). IsAddressed x) (stored_blocks old) b of.serves.still.whole.addressed (in_all b there))
      (λ b there. all_of (λ (x : Block). IsAt bytes x) (stored_blocks old) b of.serves.still.holds (in_all b there))

  -- what leads to its leaves leads apart
  pub tree_leads : (t : Table) (p : TreePlace) (tree : TableTree) → HasTreeAt (Some old) t p tree → LeadApart p.leaves.items
  tree_leads t p tree at =
      let own : List Entry = bottom (root_own p.root) tree.layers in
      let inner = inner_blocks table_kind (root_own p.root) tree.layers in
      let leafs = leaf_blocks table_kind own tree.leaves in
      subst LeadApart (sym at.1.leaves)
      (lead_apart own tree.leaves (tree_there t p tree at).is.bear
      (apart_back inner leafs (pair_apart (table_root t p.root) tree r.tables of.trees at.0 (apart_front blocks (history_blocks r old.history) of.serves.still.whole.apart.1)))
      (λ b there. some_size b (pair_blocks (table_root t p.root) tree r.tables of.trees b at.0 (in_back inner leafs b there))))

  pub root_fits : (t : Table) (p : TreePlace) (tree : TableTree) → HasTreeAt (Some old) t p tree → LinkFits p.root.link
  root_fits t p tree at = (all_of (λ (x : TableRoot). TableFits r.next_table x) r.tables (table_root t p.root) is_record.tables (get_member r.tables at.0.0 (table_root t p.root) at.0.1)).root.link

  -- ---- of an engine with the tables and their leaves

  module _ (both : List TableEntries) (with : AreWithEntries both r.tables a.uppers.items) (d : Directory) (is_dir : IsDirectory d) (own : (t : TableEntries) → Member t both → entries_in (leaves_of t.table.number d.leaves) ≡ entries_of t) where
    pub own_tree : (t : Table) (p : TreePlace) (tree : TableTree) → HasTreeAt (Some old) t p tree → entries_in (leaves_of t.number d.leaves) ≡ bottom (root_own p.root) tree.layers
    own_tree t p tree at =
        let has = pair_entries both r.tables a.uppers.items of.trees (table_root t p.root) tree with of.uppers at.0 in
        ap (λ (x : Table). entries_in (leaves_of x.number d.leaves)) (sym has.table) ∙ (own has.its has.among ∙ has.entries)

    pub tree_parted : (t : Table) (p : TreePlace) (tree : TableTree) → HasTreeAt (Some old) t p tree → IsParted [] d.leaves t.number (known_in []) p tree
    tree_parted t p tree at = parted bytes d is_dir t.number p tree (tree_there t p tree at) at.1 (tree_leads t p tree at) (own_tree t p tree at) (root_fits t p tree at)

    module _ (ps : List TreePlace) (many : length ps ≡ length r.tables) (are : ArePlaces ps r.tables of.trees) (known : List Table) (sorted : reverse known ≡ descending table_lt (record_tables r.tables)) where
      pub roots_are : HasRoots known [] d.leaves (known_in []) (places_in r.tables ps) old
      roots_are = record {
        few = omega (arith, length_places r.tables ps many, length_known r.tables known sorted);
        count = sym (length_places r.tables ps many);
        trees = λ i t p there stands. let at = tree_at of.slot r known ps of.trees many are sorted i t p there stands in (at.0, at.1, tree_parted t p at.0 at.1);
      }

      pub written_are : AreWritten known [] d (known_in []) (places_in r.tables ps)
      written_are = record {
        later = λ id le. refl;
        made_since = λ i t l there none among its dead.
            let within = get_within (places_in r.tables ps) i (omega (arith, slice_get_within known i t there, length_places r.tables ps many, length_known r.tables known sorted)) in
            absurd (none_some (sym none ∙ within.1));
      }
