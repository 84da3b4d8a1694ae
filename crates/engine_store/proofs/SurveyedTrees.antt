-- The trees of a device that reads, by what was surveyed above their leaves.
use Rattle.std.proofs.Common.{◌≡◌, ℕ, List, [], ◌∷◌, ◌++◌, length, map, Some, sym, ap, subst, ◌∙◌, inl, inr}
use Rattle.std.specs.List.{AllByRecursion}
use Rattle.device_layout.specs.declared.addr.Addr.{Addr}
use Rattle.device_layout.specs.declared.slot.Slot.{Slot}
use Rattle.block_mgr.specs.declared.found.Found.{Found}
use Rattle.block_mgr.specs.Open.{AreStored}
use Rattle.kv_model.specs.Content.{Content}
use Rattle.stored.specs.Blocks.{Block, Holds, IsAddressed}
use Rattle.stored.specs.Records.{Record, Root, TableRoot}
use Rattle.stored.specs.Stored.{AreTrees, IsOn, Reads, Stored, history_blocks, tables_blocks}
use Rattle.stored.specs.TableTree.{Entry, TableTree, root_entry, table_kind}
use Rattle.stored.specs.HistoryTree.{HistoryTree}
use Rattle.stored.specs.Tree.{bottom, inner_blocks, join, tree_blocks}
use Rattle.stored.proofs.OneTree.{holds_back, holds_front}
use Rattle.device_leaf.specs.declared.place.Place.{Place}
use Rattle.device_leaf.specs.Openings.{Serves}
use Rattle.device_leaf.proofs.Opens.{no_blank}
use Rattle.tree_open.specs.declared.place.TreePlace.{TreePlace}
use Rattle.tree_open.specs.declared.place.Upper.{Upper}
use Rattle.tree_open.specs.Trees.{IsPlaceOf, leaf_addrs, places, root_own}
use Rattle.tree_open.proofs.Descent.{one_inner, tree_read}
use Rattle.engine_store.proofs.TwoLists.{all_back, all_front}
use Rattle.hist_open.specs.Trees.{HasHistory}
use Rattle.hist_open.proofs.TreeLeaves.{one_history}
use Rattle.recover_open.specs.declared.wholes.Whole.{Whole}
use Rattle.recover_open.specs.Bare.{ArePlaces, HaveTrees, HaveUppers, stored_with}
use Rattle.recover_open.specs.Recoveries.{Counts}
use Rattle.recover_open.specs.Wholes.{SurveysWhole, whole_found}
use Rattle.recover_open.proofs.Devices.{kept_is, whole_serves}
use Rattle.recover_open.proofs.Places.{all_found}
use Rattle.recover_open.proofs.TreeLeaves.{tree_places}
use Rattle.recover_open.proofs.UpperPlaces.{wholes_are}
use Rattle.engine_store.specs.Places.{AreOver}

-- ---- the trees of a device

have_trees : (bytes : List ℕ) (tables : List TableRoot) (trees : List TableTree) → AreTrees tables trees → AllByRecursion (λ (b : Block). IsAddressed b) (tables_blocks tables trees) → Holds bytes (tables_blocks tables trees) → HaveTrees bytes tables trees
have_trees bytes [] [] are addressed holds = tt
have_trees bytes [] (tree ∷ trees) are addressed holds = absurd are
have_trees bytes (t ∷ tables) [] are addressed holds = absurd are
have_trees bytes (t ∷ tables) (tree ∷ trees) are addressed holds =
    let own : List Block = tree_blocks table_kind (root_entry t.root.link) tree in
    let others : List Block = tables_blocks tables trees in (
      record { is = are.0; addressed = all_front (λ (b : Block). IsAddressed b) own others addressed; holds = holds_front bytes own others holds },
      have_trees bytes tables trees are.1 (all_back (λ (b : Block). IsAddressed b) own others addressed) (holds_back bytes own others holds),
    )

trees_on : (bytes : List ℕ) (s : Stored) → IsOn bytes s → HaveTrees bytes s.kept.tables s.trees
trees_on bytes s on =
    let own : List Block = tables_blocks s.kept.tables s.trees in
    let others : List Block = history_blocks s.kept s.history in
    have_trees bytes s.kept.tables s.trees on.whole.trees (all_front (λ (b : Block). IsAddressed b) own others on.whole.addressed.1) (holds_front bytes own others on.holds.1)

-- ---- above their leaves

-- the tree has this above its leaves
pub record IsUpperOf (root : Root) (u : Upper) (tree : TableTree) : Type 0 where
  pub entries : u.entries.items ≡ bottom (root_own root) tree.layers
  pub addrs : u.addrs.items ≡ places (inner_blocks table_kind (root_own root) tree.layers)

abbrev pub AreUppersOf : List TableRoot → List Upper → List TableTree → Type 0
AreUppersOf [] [] [] = Unit {0}
AreUppersOf (t ∷ tables) (u ∷ uppers) (tree ∷ trees) = IsUpperOf t.root u tree × AreUppersOf tables uppers trees
AreUppersOf _ _ _ = ⊥

uppers_of : (bytes : List ℕ) (tables : List TableRoot) (uppers : List Upper) (trees : List TableTree) → HaveUppers bytes tables uppers → HaveTrees bytes tables trees → AreUppersOf tables uppers trees
uppers_of bytes [] [] [] have there = tt
uppers_of bytes [] [] (tree ∷ trees) have there = absurd there
uppers_of bytes [] (u ∷ uppers) trees have there = absurd have
uppers_of bytes (t ∷ tables) [] trees have there = absurd have
uppers_of bytes (t ∷ tables) (u ∷ uppers) [] have there = absurd there
uppers_of bytes (t ∷ tables) (u ∷ uppers) (tree ∷ trees) have there =
    let one = one_inner bytes t.root u.entries.items (bottom (root_own t.root) tree.layers) u.addrs.items (places (inner_blocks table_kind (root_own t.root) tree.layers)) have.0 (tree_read bytes t.root tree there.0) in
    (record { entries = one.0; addrs = one.1 }, uppers_of bytes tables uppers trees have.1 there.1)

-- ---- what was surveyed

-- it is of this checkpoint
pub record IsSurveyedOf (bytes : List ℕ) (place : Place) (a : Whole) : Type 0 where
  pub slot : Slot
  pub trees : List TableTree
  pub history : HistoryTree
  pub have : HaveTrees bytes a.record.tables trees
  pub uppers : AreUppersOf a.record.tables a.uppers.items trees
  pub read : a.history.records.items ≡ join history.leaves
  pub stand : a.history.addrs.items ≡ places (history_blocks a.record history)
  pub serves : Serves bytes place (Some (stored_with slot a.record trees history))
  pub books : Counts (all_found slot a.record trees history) place.blocks

abbrev pub old_of : (bytes : List ℕ) (place : Place) (a : Whole) → IsSurveyedOf bytes place a → Stored
old_of bytes place a of = stored_with of.slot a.record of.trees of.history

history_on : (bytes : List ℕ) (s : Stored) → IsOn bytes s → HasHistory bytes s.kept.history s.history
history_on bytes s on =
    let own : List Block = tables_blocks s.kept.tables s.trees in
    let others : List Block = history_blocks s.kept s.history in
    record { is = on.whole.history; addressed = all_back (λ (b : Block). IsAddressed b) own others on.whole.addressed.1; holds = holds_back bytes own others on.holds.1 }

pub surveyed_of : (bytes : List ℕ) (place : Place) (a : Whole) (content : Content) → SurveysWhole bytes place a → Reads bytes content → IsSurveyedOf bytes place a
surveyed_of bytes place a content surveyed (inl blank) = absurd (no_blank bytes surveyed.slot surveyed.names.chosen blank.0)
surveyed_of bytes place a content surveyed (inr (s, on, same)) = record {
  slot = surveyed.slot;
  trees = s.trees;
  history = s.history;
  have = have;
  uppers = uppers_of bytes a.record.tables a.uppers.items s.trees surveyed.have have;
  read = surveyed.history.all ∙ ap (λ (t : HistoryTree). join t.leaves) one;
  stand = surveyed.history.stand ∙ ap (λ (t : HistoryTree). places (history_blocks a.record t)) one;
  serves = whole_serves bytes surveyed.slot a.record s.trees s.history surveyed.names have also (subst (λ (l : List Found). AreStored l (length bytes)) found surveyed.stored) place surveyed.stands surveyed.unsynced counts.has;
  books = counts;
}
  where
    kept : s.kept ≡ a.record
    kept = kept_is bytes surveyed.slot s a.record surveyed.names.chosen surveyed.names.is_record surveyed.names.is on

    have : HaveTrees bytes a.record.tables s.trees
    have = subst (λ (r : Record). HaveTrees bytes r.tables s.trees) kept (trees_on bytes s on)

    also : HasHistory bytes a.record.history s.history
    also = subst (λ (r : Record). HasHistory bytes r.history s.history) kept (history_on bytes s on)

    -- the device has one history
    one : surveyed.history.tree ≡ s.history
    one = one_history bytes a.record.history surveyed.history.tree s.history surveyed.history.has also

    found : whole_found surveyed.slot a.uppers.items a.history.addrs.items ≡ all_found surveyed.slot a.record s.trees s.history
    found = wholes_are bytes surveyed.slot a.record a.uppers.items a.history s.trees s.history surveyed.have have surveyed.history also

    counts : Counts (all_found surveyed.slot a.record s.trees s.history) place.blocks
    counts = subst (λ (l : List Found). Counts l place.blocks) found surveyed.books

-- ---- where they stand

pub places_over : (bytes : List ℕ) (tables : List TableRoot) (uppers : List Upper) (trees : List TableTree) (ps : List TreePlace) → HaveTrees bytes tables trees → AreUppersOf tables uppers trees → AreOver ps tables uppers → ArePlaces ps tables trees
places_over bytes [] [] [] [] have are over = tt
places_over bytes [] [] [] (p ∷ ps) have are over = absurd over
places_over bytes [] [] (tree ∷ trees) ps have are over = absurd have
places_over bytes [] (u ∷ uppers) trees ps have are over = absurd are
places_over bytes (t ∷ tables) [] trees ps have are over = absurd are
places_over bytes (t ∷ tables) (u ∷ uppers) [] ps have are over = absurd have
places_over bytes (t ∷ tables) (u ∷ uppers) (tree ∷ trees) [] have are over = absurd over
places_over bytes (t ∷ tables) (u ∷ uppers) (tree ∷ trees) (p ∷ ps) have are over = (over.0.root_is, place, places_over bytes tables uppers trees ps have.1 are.1 over.1)
  where
    place : IsPlaceOf p tree
    place = record {
      leaves = over.0.leaves ∙ ap (λ (es : List Entry). map {A = Entry} (λ e. e.link) es) are.0.entries ∙ ap (λ (r : Root). map {A = Entry} (λ e. e.link) (bottom (root_own r) tree.layers)) (sym over.0.root_is);
      addrs = over.0.addrs ∙ ap (λ (l : List Addr). l ++ leaf_addrs u.entries.items) are.0.addrs ∙ ap (λ (es : List Entry). places (inner_blocks table_kind (root_own t.root) tree.layers) ++ leaf_addrs es) are.0.entries
          ∙ sym (tree_places bytes t.root tree have.0) ∙ ap (λ (r : Root). places (tree_blocks table_kind (root_entry r.link) tree)) (sym over.0.root_is);
    }
