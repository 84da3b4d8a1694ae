-- What a device has whose record is of a bare checkpoint.
use Rattle.std.specs.Prelude.{◌≡◌, ℕ, zero, suc, ◌<◌, List, [], ◌∷◌, ◌++◌, length, slice_index_or, Some, false, refl}
use Rattle.std.specs.List.{AllByRecursion}
use Rattle.std.proofs.Common.{inl, inr, sym, ◌∙◌, ap, subst, arith}
use Rattle.std.proofs.lemmas.List.{append-nil}
use Rattle.block_sum.specs.Sum.{sum_of}
use Rattle.disk_model.specs.Ranges.{range}
use Rattle.device_layout.specs.declared.slot.Slot.{Slot}
use Rattle.le_codec.specs.Images.{padded, block_size, block_of}
use Rattle.block_mgr.specs.declared.found.Found.{Found}
use Rattle.block_mgr.specs.Open.{AreStored}
use Rattle.kv_model.specs.Content.{Content}
use Rattle.stored.specs.Blocks.{Block, IsAddressed, IsAt, Holds, Apart, AreApart}
use Rattle.stored.specs.Tree.{IsTree, tree_blocks}
use Rattle.stored.specs.TableTree.{table_kind, TableTree, root_entry}
use Rattle.stored.specs.HistoryTree.{HistoryTree, history_kind, history_root_entry}
use Rattle.stored.specs.Records.{Root, TableRoot, Record, record_image, IsRecord}
use Rattle.stored.specs.Stored.{Stored, AreTrees, tables_blocks, history_blocks, stored_blocks, record_block, IsWhole, IsOn, Reads}
use Rattle.stored.proofs.Exact.{record_exact}
use Rattle.stored.proofs.EmptyTrees.{history_empty}
use Rattle.stored.proofs.OneTree.{holds_front, holds_back}
use Rattle.checkpoint_core.specs.Stands.{AreInUse}
use Rattle.checkpoint_core.specs.Room.{IsSpaceOf}
use Rattle.device_leaf.specs.declared.place.Place.{Place}
use Rattle.device_leaf.specs.Damage.{IsChosen, record_found}
use Rattle.device_leaf.specs.Openings.{Serves, HasBooks}
use Rattle.device_leaf.proofs.Leaves.{length_block}
use Rattle.device_leaf.proofs.Shapes.{all_front, all_join}
use Rattle.device_leaf.proofs.Opens.{slot_is, no_blank, spoilt_no_content, corrupt_no_content, record_bytes, range_length}
use Rattle.tree_open.specs.Trees.{HasTree}
use Rattle.hist_open.specs.Trees.{HasHistory}
use Rattle.hist_open.proofs.TreeLeaves.{spoilt_no_history}
use Rattle.recover_open.specs.Bare.{IsBare, HaveTrees, bare_stored, stored_with}
use Rattle.recover_open.specs.Wholes.{TableSpoils, HistoryIsSpoilt, WholeMeets, IsWholeDamage, whole_found}
use Rattle.recover_open.specs.Damage.{Names, HasNoRecord, IsAmong, IsDamage, TablesSpoil, BlocksMeet, blocks_found, uppers_found}
use Rattle.recover_open.proofs.TreeLeaves.{spoilt_no_tree}
use Rattle.recover_open.proofs.Places.{Matches, IsLong, found_of, all_found, blocks_match, blocks_last, tables_long, history_long, stored_of, apart_of, told_of}
use Rattle.recover_open.proofs.UpperPlaces.{uppers_are, wholes_are}

-- ---- the record

block_spelled : (bytes : List ℕ) (slot : Slot) (s : Stored) → IsChosen bytes slot → IsOn bytes s → range bytes slot.offset slot.size ≡ block_of (record_image s.kept)
block_spelled bytes slot s chosen on =
    subst (λ (x : Slot). range bytes x.offset x.size ≡ block_of (record_image s.kept)) (slot_is bytes slot s chosen on) (on.holds.0.is ∙ ap (λ n. padded (record_image s.kept) n) on.whole.addressed.0.size)

sequence_is : (bytes : List ℕ) (slot : Slot) (s : Stored) → IsChosen bytes slot → IsOn bytes s → s.kept.sequence ≡ slot.sequence
sequence_is bytes slot s chosen on = on.whole.sequence ∙ ap (λ (x : Slot). x.sequence) (slot_is bytes slot s chosen on)

pub same_record : (block : List ℕ) (r q : Record) → IsRecord r → IsRecord q → block ≡ block_of (record_image r) → block ≡ block_of (record_image q) → r ≡ q
same_record block r q is also spelled too = record_exact (block_size (length (record_image r))) (block_size (length (record_image q))) r q is also (sym spelled ∙ too)

pub kept_is : (bytes : List ℕ) (slot : Slot) (s : Stored) (r : Record) → IsChosen bytes slot → IsRecord r → range bytes slot.offset slot.size ≡ block_of (record_image r) → IsOn bytes s → s.kept ≡ r
kept_is bytes slot s r chosen is spelled on = same_record (range bytes slot.offset slot.size) s.kept r on.whole.is_record is (block_spelled bytes slot s chosen on) spelled

-- ---- from the device to its trees

pub tree_at : (bytes : List ℕ) (tables : List TableRoot) (trees : List TableTree) (t : TableRoot) (i : ℕ) → HaveTrees bytes tables trees → i < length tables → t ≡ slice_index_or tables i t → (tree : TableTree) × HasTree bytes t.root tree
tree_at bytes [] trees t i have lt is = absurd (omega (arith, lt))
tree_at bytes (u ∷ tables) [] t i have lt is = absurd have
tree_at bytes (u ∷ tables) (tree ∷ trees) t zero have lt is = (tree, subst (λ (x : TableRoot). HasTree bytes x.root tree) (sym is) have.0)
tree_at bytes (u ∷ tables) (tree ∷ trees) t (suc i) have lt is = tree_at bytes tables trees t i have.1 (omega (arith, lt)) is

all_back : (P : Block → Type 0) (xs ys : List Block) → AllByRecursion P (xs ++ ys) → AllByRecursion P ys
all_back P [] ys all = all
all_back P (x ∷ xs) ys all = all_back P xs ys all.1

apart_front : (xs ys : List Block) → Apart (xs ++ ys) → Apart xs
apart_front [] ys apart = tt
apart_front (x ∷ xs) ys apart = (all_front (λ (c : Block). AreApart x.place c.place) xs ys apart.0, apart_front xs ys apart.1)

have_trees : (bytes : List ℕ) (tables : List TableRoot) (trees : List TableTree) → AreTrees tables trees → AllByRecursion (λ (b : Block). IsAddressed b) (tables_blocks tables trees) → Holds bytes (tables_blocks tables trees) → HaveTrees bytes tables trees
have_trees bytes [] [] are addressed holds = tt
have_trees bytes [] (tree ∷ trees) are addressed holds = absurd are
have_trees bytes (t ∷ tables) [] are addressed holds = absurd are
have_trees bytes (t ∷ tables) (tree ∷ trees) are addressed holds =
    let own : List Block = tree_blocks table_kind (root_entry t.root.link) tree in
    let others : List Block = tables_blocks tables trees in (
      record { is = are.0; addressed = all_front (λ (b : Block). IsAddressed b) own others addressed; holds = holds_front bytes own others holds },
      have_trees bytes tables trees are.1 (all_back (λ (b : Block). IsAddressed b) own others addressed) (holds_back bytes own others holds),
    )

trees_on : (bytes : List ℕ) (s : Stored) → IsOn bytes s → HaveTrees bytes s.kept.tables s.trees
trees_on bytes s on =
    let tables : List Block = tables_blocks s.kept.tables s.trees in
    let history : List Block = history_blocks s.kept s.history in
    have_trees bytes s.kept.tables s.trees on.whole.trees (all_front (λ (b : Block). IsAddressed b) tables history on.whole.addressed.1) (holds_front bytes tables history on.holds.1)

-- its blocks can all be in use
stored_on : (bytes : List ℕ) (slot : Slot) (s : Stored) → IsChosen bytes slot → IsOn bytes s → AreStored (blocks_found slot s.kept.tables s.trees) (length bytes)
stored_on bytes slot s chosen on =
    let tables : List Block = tables_blocks s.kept.tables s.trees in
    let history : List Block = history_blocks s.kept s.history in
    subst (λ (x : Slot). AreStored (blocks_found x s.kept.tables s.trees) (length bytes)) (slot_is bytes slot s chosen on)
    (stored_of (blocks_found s.slot s.kept.tables s.trees) (record_block s ∷ tables) bytes (refl, blocks_match tables)
    (on.whole.addressed.0, all_front (λ (b : Block). IsAddressed b) tables history on.whole.addressed.1) (on.holds.0, holds_front bytes tables history on.holds.1) (record_bytes s.kept, tables_long s.kept.tables s.trees)
    (all_front (λ (c : Block). AreApart (record_block s).place c.place) tables history on.whole.apart.0, apart_front tables history on.whole.apart.1))

-- ---- a damaged device reads as nothing

no_record_no_content : (bytes : List ℕ) (slot : Slot) → IsChosen bytes slot → HasNoRecord slot (range bytes slot.offset slot.size) → (content : Content) → Reads bytes content → ⊥
no_record_no_content bytes slot chosen none content (inl blank) = no_blank bytes slot chosen blank.0
no_record_no_content bytes slot chosen none content (inr (s, on, same)) = none s.kept on.whole.is_record (sequence_is bytes slot s chosen on) (block_spelled bytes slot s chosen on)

tree_no_content : (bytes : List ℕ) (at want found : ℕ) → TablesSpoil bytes at want found → (content : Content) → Reads bytes content → ⊥
tree_no_content bytes at want found spoils content (inl blank) = no_blank bytes spoils.slot spoils.there.chosen blank.0
tree_no_content bytes at want found spoils content (inr (s, on, same)) =
    let kept : s.kept ≡ spoils.names = kept_is bytes spoils.slot s spoils.names spoils.there.chosen spoils.there.is_record spoils.there.is on in
    let among : IsAmong s.kept.tables spoils.table = subst (λ (r : Record). IsAmong r.tables spoils.table) (sym kept) spoils.among in
    let tree = tree_at bytes s.kept.tables s.trees spoils.table among.0 (trees_on bytes s on) among.1 among.2 in
    spoilt_no_tree bytes spoils.table.root at want found tree.0 spoils.tree tree.1

meet_no_content : (bytes : List ℕ) (at want found : ℕ) → BlocksMeet bytes at want found → (content : Content) → Reads bytes content → ⊥
meet_no_content bytes at want found meet content (inl blank) = no_blank bytes meet.slot meet.there.chosen blank.0
meet_no_content bytes at want found meet content (inr (s, on, same)) =
    let kept : s.kept ≡ meet.names = kept_is bytes meet.slot s meet.names meet.there.chosen meet.there.is_record meet.there.is on in
    let tables : List TableRoot = meet.names.tables in
    let there : HaveTrees bytes tables s.trees = subst (λ (r : Record). HaveTrees bytes r.tables s.trees) kept (trees_on bytes s on) in
    let stored : AreStored (blocks_found meet.slot tables s.trees) (length bytes) = subst (λ (r : Record). AreStored (blocks_found meet.slot r.tables s.trees) (length bytes)) kept (stored_on bytes meet.slot s meet.there.chosen on) in
    let are : AreStored (uppers_found meet.slot meet.uppers) (length bytes) = subst (λ (l : List Found). AreStored l (length bytes)) (sym (uppers_are bytes meet.slot tables meet.uppers s.trees meet.have there)) stored in
    elim meet.why [ inl none ↦ none (are.fit meet.index meet.within) | inr (j, lt, none) ↦ none (are.agree j meet.index lt meet.within) ]

pub damage_no_content : (bytes : List ℕ) (at want found : ℕ) (content : Content) → IsDamage bytes at want found → Reads bytes content → ⊥
damage_no_content bytes at want found content (inl slot) reads = corrupt_no_content bytes at slot.corrupt content reads
damage_no_content bytes at want found content (inr (inl spoils)) reads = elim spoils.why [
  | inl other ↦ spoilt_no_content bytes spoils.slot found spoils.chosen other content reads
  | inr (same, none) ↦ no_record_no_content bytes spoils.slot spoils.chosen none content reads
]
damage_no_content bytes at want found content (inr (inr (inl spoils))) reads = tree_no_content bytes at want found spoils content reads
damage_no_content bytes at want found content (inr (inr (inr meet))) reads = meet_no_content bytes at want found meet content reads

-- ---- the same of a device whose history is looked at

history_on : (bytes : List ℕ) (s : Stored) → IsOn bytes s → HasHistory bytes s.kept.history s.history
history_on bytes s on =
    let tables : List Block = tables_blocks s.kept.tables s.trees in
    let history : List Block = history_blocks s.kept s.history in
    record {
      is = on.whole.history;
      addressed = all_back (λ (b : Block). IsAddressed b) tables history on.whole.addressed.1;
      holds = holds_back bytes tables history on.holds.1;
    }

all_on : (bytes : List ℕ) (slot : Slot) (s : Stored) → IsChosen bytes slot → IsOn bytes s → AreStored (all_found slot s.kept s.trees s.history) (length bytes)
all_on bytes slot s chosen on =
    let tables : List Block = tables_blocks s.kept.tables s.trees in
    let history : List Block = history_blocks s.kept s.history in
    subst (λ (x : Slot). AreStored (all_found x s.kept s.trees s.history) (length bytes)) (slot_is bytes slot s chosen on)
    (stored_of (all_found s.slot s.kept s.trees s.history) (stored_blocks s) bytes (refl, blocks_match (tables ++ history)) on.whole.addressed on.holds
    (record_bytes s.kept, all_join (λ (b : Block). IsLong b) tables history (tables_long s.kept.tables s.trees) (history_long (history_root_entry s.kept.history.link) s.history)) on.whole.apart)

table_no_content : (bytes : List ℕ) (at want found : ℕ) → TableSpoils bytes at want found → (content : Content) → Reads bytes content → ⊥
table_no_content bytes at want found spoils content (inl blank) = no_blank bytes spoils.slot spoils.there.chosen blank.0
table_no_content bytes at want found spoils content (inr (s, on, same)) =
    let kept : s.kept ≡ spoils.names = kept_is bytes spoils.slot s spoils.names spoils.there.chosen spoils.there.is_record spoils.there.is on in
    let among : IsAmong s.kept.tables spoils.table = subst (λ (r : Record). IsAmong r.tables spoils.table) (sym kept) spoils.among in
    let tree = tree_at bytes s.kept.tables s.trees spoils.table among.0 (trees_on bytes s on) among.1 among.2 in
    spoilt_no_tree bytes spoils.table.root at want found tree.0 spoils.tree tree.1

history_no_content : (bytes : List ℕ) (at want found : ℕ) → HistoryIsSpoilt bytes at want found → (content : Content) → Reads bytes content → ⊥
history_no_content bytes at want found spoils content (inl blank) = no_blank bytes spoils.slot spoils.there.chosen blank.0
history_no_content bytes at want found spoils content (inr (s, on, same)) =
    let kept : s.kept ≡ spoils.names = kept_is bytes spoils.slot s spoils.names spoils.there.chosen spoils.there.is_record spoils.there.is on in
    spoilt_no_history bytes spoils.names.history at want found s.history spoils.spoils (subst (λ (r : Record). HasHistory bytes r.history s.history) kept (history_on bytes s on))

meets_no_content : (bytes : List ℕ) (at want found : ℕ) → WholeMeets bytes at want found → (content : Content) → Reads bytes content → ⊥
meets_no_content bytes at want found meet content (inl blank) = no_blank bytes meet.slot meet.there.chosen blank.0
meets_no_content bytes at want found meet content (inr (s, on, same)) =
    let kept : s.kept ≡ meet.names = kept_is bytes meet.slot s meet.names meet.there.chosen meet.there.is_record meet.there.is on in
    let there : HaveTrees bytes meet.names.tables s.trees = subst (λ (r : Record). HaveTrees bytes r.tables s.trees) kept (trees_on bytes s on) in
    let history : HasHistory bytes meet.names.history s.history = subst (λ (r : Record). HasHistory bytes r.history s.history) kept (history_on bytes s on) in
    let stored : AreStored (all_found meet.slot meet.names s.trees s.history) (length bytes) = subst (λ (r : Record). AreStored (all_found meet.slot r s.trees s.history) (length bytes)) kept (all_on bytes meet.slot s meet.there.chosen on) in
    let are : AreStored (whole_found meet.slot meet.uppers meet.history.addrs.items) (length bytes) =
    subst (λ (l : List Found). AreStored l (length bytes)) (sym (wholes_are bytes meet.slot meet.names meet.uppers meet.history s.trees s.history meet.have there meet.read history)) stored in
    elim meet.why [ inl none ↦ none (are.fit meet.index meet.within) | inr (j, lt, none) ↦ none (are.agree j meet.index lt meet.within) ]

pub whole_damage_no_content : (bytes : List ℕ) (at want found : ℕ) (content : Content) → IsWholeDamage bytes at want found → Reads bytes content → ⊥
whole_damage_no_content bytes at want found content (inl slot) reads = corrupt_no_content bytes at slot.corrupt content reads
whole_damage_no_content bytes at want found content (inr (inl spoils)) reads = elim spoils.why [
  | inl other ↦ spoilt_no_content bytes spoils.slot found spoils.chosen other content reads
  | inr (same, none) ↦ no_record_no_content bytes spoils.slot spoils.chosen none content reads
]
whole_damage_no_content bytes at want found content (inr (inr (inl spoils))) reads = table_no_content bytes at want found spoils content reads
whole_damage_no_content bytes at want found content (inr (inr (inr (inl spoils)))) reads = history_no_content bytes at want found spoils content reads
whole_damage_no_content bytes at want found content (inr (inr (inr (inr meet)))) reads = meets_no_content bytes at want found meet content reads

-- ---- what else a record says of the device

pub run_read : (bytes : List ℕ) (slot : Slot) (r : Record) → IsChosen bytes slot → IsRecord r → range bytes slot.offset slot.size ≡ block_of (record_image r) → (content : Content) → Reads bytes content → content.run ≡ r.run
run_read bytes slot r chosen is spelled content (inl blank) = absurd (no_blank bytes slot chosen blank.0)
run_read bytes slot r chosen is spelled content (inr (s, on, same)) = ap (λ (c : Content). c.run) same ∙ ap (λ (x : Record). x.run) (kept_is bytes slot s r chosen is spelled on)

pub not_bare : (bytes : List ℕ) (slot : Slot) (r : Record) → IsChosen bytes slot → IsRecord r → range bytes slot.offset slot.size ≡ block_of (record_image r) → (IsBare r → ⊥) → (s : Stored) → IsOn bytes s → IsBare s.kept → ⊥
not_bare bytes slot r chosen is spelled none s on bare = none (subst (λ (x : Record). IsBare x) (kept_is bytes slot s r chosen is spelled on) bare)

-- ---- from the trees to the device

record TreesAll (bytes : List ℕ) (tables : List TableRoot) (trees : List TableTree) : Type 0 where
  trees_are : AreTrees tables trees
  addressed : AllByRecursion (λ (b : Block). IsAddressed b) (tables_blocks tables trees)
  held : Holds bytes (tables_blocks tables trees)

trees_all : (bytes : List ℕ) (tables : List TableRoot) (trees : List TableTree) → HaveTrees bytes tables trees → TreesAll bytes tables trees
trees_all bytes [] [] have = record { trees_are = tt; addressed = tt; held = tt }
trees_all bytes [] (tree ∷ trees) have = absurd have
trees_all bytes (t ∷ tables) [] have = absurd have
trees_all bytes (t ∷ tables) (tree ∷ trees) have =
    let own : List Block = tree_blocks table_kind (root_entry t.root.link) tree in
    let others : List Block = tables_blocks tables trees in
    let rest = trees_all bytes tables trees have.1 in
    record {
      trees_are = (have.0.is, rest.trees_are);
      addressed = all_join (λ (b : Block). IsAddressed b) own others have.0.addressed rest.addressed;
      held = all_join (λ (b : Block). IsAt bytes b) own others have.0.holds rest.held;
    }

module _ (bytes : List ℕ) (slot : Slot) (r : Record) (trees : List TableTree) (history : HistoryTree) (names : Names bytes slot r) (have : HaveTrees bytes r.tables trees) (also : HasHistory bytes r.history history) (stored : AreStored (all_found slot r trees history) (length bytes)) where
  abbrev made : Stored
  made = stored_with slot r trees history

  abbrev tables : List Block
  tables = tables_blocks r.tables trees

  abbrev more : List Block
  more = history_blocks r history

  every : TreesAll bytes r.tables trees
  every = trees_all bytes r.tables trees have

  size : slot.size ≡ block_size (length (record_image r))
  size = sym (range_length bytes slot.offset slot.size names.there.within) ∙ ap length names.is ∙ length_block (record_image r)

  record_there : IsAt bytes (record_block made)
  record_there = record { within = names.there.within; is = names.is ∙ ap (λ k. padded (record_image r) k) (sym size) }

  record_addressed : IsAddressed (record_block made)
  record_addressed = record { low = names.there.place.behind; unit = names.there.place.unit; size = size; most = names.there.place.most; sum = sym names.there.sum ∙ ap sum_of record_there.is }

  matches : Matches (all_found slot r trees history) (stored_blocks made)
  matches = (refl, blocks_match (tables ++ more))

  whole : IsWhole made
  whole = record {
    sequence = names.sequence;
    is_record = names.is_record;
    trees = every.trees_are;
    history = also.is;
    addressed = (record_addressed, all_join (λ (b : Block). IsAddressed b) tables more every.addressed also.addressed);
    apart = apart_of (all_found slot r trees history) (stored_blocks made) (length bytes) matches (refl, blocks_last (tables ++ more)) stored;
  }

  pub whole_on : IsOn bytes made
  whole_on = record {
    whole = whole;
    long = names.chosen.long;
    chosen = names.chosen.chooses;
    holds = (record_there, all_join (λ (b : Block). IsAt bytes b) tables more every.held also.holds);
  }

  pub whole_serves : (place : Place) → place.slot ≡ Some slot → place.blocks.is_synced ≡ false → HasBooks (all_found slot r trees history) place.blocks → Serves bytes place (Some made)
  whole_serves place slot_there fresh has =
      let told = told_of (all_found slot r trees history) (stored_blocks made) place.blocks (length bytes) matches names.chosen.long has stored in
      record {
        still = whole_on;
        slot = slot_there;
        unsynced = fresh;
        in_use = told.in_use;
        space = told.space_is;
        within = told.within;
      }

-- ---- without a history

abbrev no_records : HistoryTree
no_records = record { layers = []; leaves = [] ∷ [] }

no_blocks : (r : Record) → IsBare r → history_blocks r no_records ≡ []
no_blocks r bare = ap (λ (h : Root). tree_blocks history_kind (history_root_entry h.link) no_records) bare

bare_history : (bytes : List ℕ) (r : Record) → IsBare r → HasHistory bytes r.history no_records
bare_history bytes r bare = subst (λ (h : Root). HasHistory bytes h no_records) (sym bare) (record { is = history_empty; addressed = tt; holds = tt })

found_same : (slot : Slot) (r : Record) (trees : List TableTree) → IsBare r → blocks_found slot r.tables trees ≡ all_found slot r trees no_records
found_same slot r trees bare =
    let tables : List Block = tables_blocks r.tables trees in
    ap (λ (l : List Block). record_found slot ∷ found_of l) (sym (append-nil tables) ∙ ap (λ (l : List Block). tables ++ l) (sym (no_blocks r bare)))

module _ (bytes : List ℕ) (slot : Slot) (r : Record) (trees : List TableTree) (names : Names bytes slot r) (bare : IsBare r) (have : HaveTrees bytes r.tables trees) (stored : AreStored (blocks_found slot r.tables trees) (length bytes)) where
  all_stored : AreStored (all_found slot r trees no_records) (length bytes)
  all_stored = subst (λ (l : List Found). AreStored l (length bytes)) (found_same slot r trees bare) stored

  pub made_on : IsOn bytes (bare_stored slot r trees)
  made_on = whole_on bytes slot r trees no_records names have (bare_history bytes r bare) all_stored

  pub serves : (place : Place) → place.slot ≡ Some slot → place.blocks.is_synced ≡ false → HasBooks (blocks_found slot r.tables trees) place.blocks → Serves bytes place (Some (bare_stored slot r trees))
  serves place slot_there fresh has =
      whole_serves bytes slot r trees no_records names have (bare_history bytes r bare) all_stored place slot_there fresh (subst (λ (l : List Found). HasBooks l place.blocks) (found_same slot r trees bare) has)
