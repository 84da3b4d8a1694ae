-- What was surveyed of a device, and the content that it reads as.
use Rattle.std.proofs.Common.{◌≡◌, ◌↔◌, ℕ, zero, suc, List, [], ◌∷◌, ◌++◌, drop, map, Option, Some, None, refl, sym, ap, ap₂, subst, ◌∙◌, inl, inr}
use Rattle.std.specs.Prelude.{filter, option_and_then, option_map, slice_get}
use Rattle.std.specs.List.{AllByRecursion}
use Rattle.std.proofs.lemmas.List.Elements.{filter-append}
use Rattle.device_layout.specs.declared.slot.Slot.{Slot}
use Rattle.kv_model.specs.Content.{Content, nothing}
use Rattle.kv_model.specs.Holds.{Member}
use Rattle.stamp.specs.declared.version.Version.{Version}
use Rattle.kv_model.specs.History.{Table, put_of}
use Rattle.kv_model.specs.Regular.{IsRegular}
use Rattle.kv_model.specs.Rows.{Up}
use Rattle.row_page.specs.Changes.{PageChange, version_in}
use Rattle.row_page.specs.Rows.{Row, Ascends}
use Rattle.leaf_rows.specs.declared.marks.Marks.{Marks}
use Rattle.leaf_rows.specs.Contents.{is_seen_row, seen_rows}
use Rattle.leaf_rows.specs.Rows.{version_at}
use Rattle.inner_page.specs.Children.{IsUnderKey}
use Rattle.stored.specs.Blocks.{Block, IsAddressed, Holds}
use Rattle.stored.specs.HistoryTree.{HistoryRecord, HistoryTree}
use Rattle.stored.specs.Tree.{bottom, inner_blocks, join, tree_blocks}
use Rattle.stored.specs.TableTree.{Entry, Climbs, TableTree, first_key, root_entry, table_kind}
use Rattle.stored.specs.Records.{Record, TableRoot}
use Rattle.stored.specs.Stored.{AreTrees, IsOn, Reads, Stored, history_blocks, tables_blocks, tables_of}
use Rattle.stored.proofs.Device.{one_content}
use Rattle.stored.proofs.OneTree.{holds_back, holds_front}
use Rattle.hist_open.specs.Trees.{HasHistory}
use Rattle.hist_open.proofs.TreeLeaves.{one_history}
use Rattle.device_leaf.specs.declared.place.Place.{Place}
use Rattle.device_leaf.proofs.Opens.{no_blank}
use Rattle.device_leaf.proofs.Shapes.{all_front}
use Rattle.tree_open.specs.declared.place.Upper.{Upper}
use Rattle.tree_open.specs.Trees.{places, root_own}
use Rattle.tree_open.proofs.OneLayer.{key_none}
use Rattle.tree_open.proofs.Descent.{one_inner, tree_read}
use Rattle.recover_open.specs.declared.wholes.Whole.{Whole}
use Rattle.recover_open.specs.Bare.{HaveTrees, HaveUppers, kept_of, marks_of, tree_rows}
use Rattle.recover_open.specs.Leaves.{AreLeaves, IsUnder, NoneUnder}
use Rattle.recover_open.specs.Wholes.{SurveysWhole}
use Rattle.recover_open.proofs.Devices.{kept_is, tree_at as among_at}
use Rattle.recover_open.proofs.TreeLeaves.{tree_leaves}
use Rattle.leaf_frame.specs.Leaf.{HeldLeaf}
use Rattle.device_read.specs.Laws.{AreWholePages}
use Rattle.device_read.specs.Leaves.{HasValue}
use Rattle.device_read.specs.Merging.{later_of, merged}
use Rattle.device_read.specs.Newest.{KeysClimb, is_kept_record, newest_kept, of_leaf, record_at, rows_of}
use Rattle.device_read.specs.Readers.{Held, HasPages, IsReaderOf, entries_at, entries_in, held_of, low_at, number_at, number_in, tables_in}
use Rattle.device_read.specs.Refusals.{LeafIsAtFault}
use Rattle.device_read.specs.Rows.{HasTables, InOrder, KeyValue, rows_in, value_in}
use Rattle.device_read.specs.Steps.{IsLeafAt, IsValueOf, value_shown, value_with}
use Rattle.device_read.proofs.Between.{AreBetween, as_many, between_seen, key_under, page_ascends, page_of_key, pages_ascend}
use Rattle.device_read.proofs.Keyed.{from_value, puts_ascend, rows_joined, to_value}
use Rattle.device_read.proofs.LeafPlaces.{leaf_there, page_at}
use Rattle.device_read.proofs.Lists.{mapped_at, unmapped_at}
use Rattle.device_read.proofs.Merged.{merged_version}
use Rattle.device_read.proofs.NewestRecords.{KeysRise, newest_climb}
use Rattle.device_read.proofs.Pages.{between_opened, inner_first, least_first, opened_at, opened_count, opened_pages, under_bounds, under_first}
use Rattle.device_read.proofs.Parts.{leaf_ascends, leaf_version}
use Rattle.device_read.proofs.Rising.{history_rises}
use Rattle.device_read.proofs.Tables.{tables_read}
use Rattle.device_read.proofs.Turned.{member_turned, turned_member, turned_order}
use Rattle.device_read.proofs.Values.{content_with, value_read}

-- ---- the trees of a device

all_back : (P : Block → Type 0) (xs ys : List Block) → AllByRecursion P (xs ++ ys) → AllByRecursion P ys
all_back P [] ys all = all
all_back P (x ∷ xs) ys all = all_back P xs ys all.1

have_trees : (bytes : List ℕ) (tables : List TableRoot) (trees : List TableTree) → AreTrees tables trees → AllByRecursion (λ (b : Block). IsAddressed b) (tables_blocks tables trees) → Holds bytes (tables_blocks tables trees) → HaveTrees bytes tables trees
have_trees bytes [] [] are addressed holds = tt
have_trees bytes [] (tree ∷ trees) are addressed holds = absurd are
have_trees bytes (t ∷ tables) [] are addressed holds = absurd are
have_trees bytes (t ∷ tables) (tree ∷ trees) are addressed holds =
    let own : List Block = tree_blocks table_kind (root_entry t.root.link) tree in
    let others : List Block = tables_blocks tables trees in (
      record { is = are.0; addressed = all_front (λ (b : Block). IsAddressed b) own others addressed; holds = holds_front bytes own others holds },
      have_trees bytes tables trees are.1 (all_back (λ (b : Block). IsAddressed b) own others addressed) (holds_back bytes own others holds),
    )

trees_on : (bytes : List ℕ) (s : Stored) → IsOn bytes s → HaveTrees bytes s.kept.tables s.trees
trees_on bytes s on =
    let tables : List Block = tables_blocks s.kept.tables s.trees in
    let history : List Block = history_blocks s.kept s.history in
    have_trees bytes s.kept.tables s.trees on.whole.trees (all_front (λ (b : Block). IsAddressed b) tables history on.whole.addressed.1) (holds_front bytes tables history on.holds.1)

-- ---- the content of a device that was surveyed

history_on : (bytes : List ℕ) (s : Stored) → IsOn bytes s → HasHistory bytes s.kept.history s.history
history_on bytes s on =
    let tables : List Block = tables_blocks s.kept.tables s.trees in
    let history : List Block = history_blocks s.kept s.history in
    record {
      is = on.whole.history;
      addressed = all_back (λ (b : Block). IsAddressed b) tables history on.whole.addressed.1;
      holds = holds_back bytes tables history on.holds.1;
    }

record IsSurveyRead (bytes : List ℕ) (w : Whole) (content : Content) : Type 0 where
  slot : Slot
  trees : List TableTree
  history : HistoryTree
  have : HaveTrees bytes w.record.tables trees
  there : HasHistory bytes w.record.history history
  records : w.history.records.items ≡ join history.leaves
  is : content ≡ content_with slot w.record trees history

survey_read : (bytes : List ℕ) (place : Place) (w : Whole) (content : Content) → SurveysWhole bytes place w → Reads bytes content → IsSurveyRead bytes w content
survey_read bytes place w content surveyed (inl (blank, none)) = absurd (no_blank bytes surveyed.slot surveyed.names.chosen blank)
survey_read bytes place w content surveyed (inr (s, on, same)) =
    let names = surveyed.names in
    let kept : s.kept ≡ w.record = kept_is bytes surveyed.slot s w.record names.chosen names.is_record names.is on in
    let there : HasHistory bytes w.record.history s.history = subst (λ (r : Record). HasHistory bytes r.history s.history) kept (history_on bytes s on) in
    record {
      slot = s.slot;
      trees = s.trees;
      history = s.history;
      have = subst (λ (r : Record). HaveTrees bytes r.tables s.trees) kept (trees_on bytes s on);
      there = there;
      records = surveyed.history.all ∙ ap (λ (t : HistoryTree). join t.leaves) (one_history bytes w.record.history surveyed.history.tree s.history surveyed.history.has there);
      is = same ∙ ap (λ (r : Record). content_with s.slot r s.trees s.history) kept;
    }

-- ---- the tree at a place

record IsTreeAt (bytes : List ℕ) (uppers : List Upper) (trees : List TableTree) (place : ℕ) : Type 0 where
  tree : TableTree
  at : slice_get trees place ≡ Some tree
  first : first_key (entries_in uppers place) ≡ Some []
  leaves : AreLeaves bytes (entries_in uppers place) None tree.leaves

tree_at : (bytes : List ℕ) (tables : List TableRoot) (uppers : List Upper) (trees : List TableTree) (place : ℕ) (t : TableRoot) → HaveUppers bytes tables uppers → HaveTrees bytes tables trees → slice_get tables place ≡ Some t → IsTreeAt bytes uppers trees place
tree_at bytes [] uppers trees place t have also at = absurd cc
tree_at bytes (x ∷ tables) [] trees place t have also at = absurd have
tree_at bytes (x ∷ tables) (u ∷ uppers) [] place t have also at = absurd also
tree_at bytes (x ∷ tables) (u ∷ uppers) (tree ∷ trees) zero t have also at =
    let own : List Entry = bottom (root_own x.root) tree.layers in
    let one = one_inner bytes x.root own u.entries.items (places (inner_blocks table_kind (root_own x.root) tree.layers)) u.addrs.items (tree_read bytes x.root tree also.0) have.0 in
    record { tree = tree; at = refl; first = inner_first bytes x.root u.entries.items u.addrs.items have.0; leaves = subst (λ (l : List Entry). AreLeaves bytes l None tree.leaves) one.0 (tree_leaves bytes x.root tree also.0) }
tree_at bytes (x ∷ tables) (u ∷ uppers) (tree ∷ trees) (suc place) t have also at =
    let rest = tree_at bytes tables uppers trees place t have.1 also.1 at in
    record { tree = rest.tree; at = rest.at; first = rest.first; leaves = rest.leaves }

number_is : (tables : List TableRoot) (place : ℕ) (t : TableRoot) → slice_get tables place ≡ Some t → number_in tables place ≡ t.table.number
number_is [] place t at = absurd cc
number_is (x ∷ tables) zero t at = let same : x ≡ t = cc in ap (λ (y : TableRoot). y.table.number) same
number_is (x ∷ tables) (suc place) t at = number_is tables place t at

-- ---- its pages

seen_joined : (m : Marks) (ids : List ℕ) (leaves : List (List Row)) → join (map (seen_rows m ids) leaves) ≡ seen_rows m ids (join leaves)
seen_joined m ids [] = refl
seen_joined m ids (rows ∷ leaves) = ap (λ (l : List Row). seen_rows m ids rows ++ l) (seen_joined m ids leaves) ∙ sym (filter-append (is_seen_row m ids) rows (join leaves))

-- the pages of a table are there, between its entries, and what they show of a key is its value
pub record ArePagesOf (bytes : List ℕ) (content : Content) (h : Held) (place number : ℕ) : Type 0 where
  pub pages : List (List Row)
  pub has : HasPages bytes h place pages
  pub between : AreBetween (entries_at h place) pages
  pub climbs : Climbs (entries_at h place)
  pub values : (key : List ℕ) → value_in content number key ≡ value_shown key (join pages)

-- what pages show of a key, by what the leaves and the records have of it
module _ (bytes : List ℕ) (m : Marks) (ids : List ℕ) (number : ℕ) (newest : List HistoryRecord) (es : List Entry) (leaves : List (List Row)) (key : List ℕ) (climb : KeysClimb newest) (climbs : Climbs es) (first : first_key es ≡ Some []) (are : AreLeaves bytes es None leaves) where
  pub seen_between : AreBetween es (map (seen_rows m ids) leaves)
  seen_between = between_seen bytes m ids es leaves are

  pub pages_between : AreBetween es (opened_pages m ids number newest [] es leaves)
  pages_between = subst (λ (low : List ℕ). AreBetween es (opened_pages m ids number newest low es leaves)) (least_first es first) (between_opened m ids number newest bytes es leaves climb are)

  -- the page in which the key would stand
  in_one : (i : ℕ) (rows : List Row) → IsUnderKey es key i → slice_get leaves i ≡ Some rows → version_at key (join (opened_pages m ids number newest [] es leaves)) ≡ later_of (version_at key (join (map (seen_rows m ids) leaves))) (record_at number key newest)
  in_one i rows under at =
      let low : List ℕ = low_at es i in
      let next : Option (List ℕ) = first_key (drop (suc i) es) in
      let own : List Row = rows_of (of_leaf number low next newest) in
      let ends = under_bounds es key i under in
      page_of_key key es (opened_pages m ids number newest [] es leaves) i (merged (seen_rows m ids rows) own) pages_between under (opened_at m ids number newest bytes es leaves i rows are at)
      ∙ merged_version None None key (seen_rows m ids rows) own (page_ascends es (map (seen_rows m ids) leaves) i (seen_rows m ids rows) seen_between (mapped_at (seen_rows m ids) leaves i rows at)) (leaf_ascends number low next newest climb)
      ∙ ap₂ (λ (o p : Option (Version PageChange)). later_of o p) (sym (page_of_key key es (map (seen_rows m ids) leaves) i (seen_rows m ids rows) seen_between under (mapped_at (seen_rows m ids) leaves i rows at))) (leaf_version number low next key newest ends.0 ends.1)

  pub pages_show : version_at key (join (opened_pages m ids number newest [] es leaves)) ≡ later_of (version_at key (join (map (seen_rows m ids) leaves))) (record_at number key newest)
  pages_show =
      let some = under_first key es climbs first in
      let there = leaf_there bytes es leaves some.0 are some.1.within in
      in_one some.0 there.0 some.1 there.1

pages_surveyed : (bytes : List ℕ) (content : Content) (where_it : Place) (w : Whole) (place : ℕ) (t : TableRoot) → IsRegular content → SurveysWhole bytes where_it w → Reads bytes content → slice_get w.record.tables place ≡ Some t → Climbs (entries_in w.uppers.items place) → ArePagesOf bytes content (held_of w) place t.table.number
pages_surveyed bytes content where_it w place t regular surveyed reads at climbs =
    let r = w.record in
    let m : Marks = marks_of r in
    let ids : List ℕ = r.snapshot.ids in
    let h : Held = held_of w in
    let es : List Entry = entries_in w.uppers.items place in
    let there = survey_read bytes where_it w content surveyed reads in
    let own = tree_at bytes r.tables w.uppers.items there.trees place t surveyed.have there.have at in
    let number : number_at h place ≡ t.table.number = number_is r.tables place t at in
    let climb : KeysClimb h.newest = newest_climb (filter (is_kept_record m ids) w.history.records.items) in
    let pages : List (List Row) = opened_pages m ids (number_at h place) h.newest [] es own.tree.leaves in
    let seen : List (List Row) = map (seen_rows m ids) own.tree.leaves in
    let joined : join seen ≡ kept_of r (tree_rows own.tree) = seen_joined m ids own.tree.leaves in
    let up : Ascends None (kept_of r (tree_rows own.tree)) = subst (λ (l : List Row). Ascends None l) joined (pages_ascend es seen climbs (between_seen bytes m ids es own.tree.leaves own.leaves)) in
    let rise : KeysRise (join there.history.leaves) = history_rises bytes r.history there.history there.there in
    let same : (key : List ℕ) → record_at (number_at h place) key h.newest ≡ record_at t.table.number key (newest_kept m ids (join there.history.leaves)) = (λ key.
    ap (λ (n : ℕ). record_at n key h.newest) number ∙ ap (λ (l : List HistoryRecord). record_at t.table.number key (newest_kept m ids l)) there.records) in
    record {
      pages = pages;
      has = record {
        leaves = own.tree.leaves;
        are = own.leaves;
        count = opened_count m ids (number_at h place) h.newest bytes [] es own.tree.leaves own.leaves;
        kept = λ i rows has_it. opened_at m ids (number_at h place) h.newest bytes es own.tree.leaves i rows own.leaves has_it;
      };
      between = pages_between bytes m ids (number_at h place) h.newest es own.tree.leaves [] climb climbs own.first own.leaves;
      climbs = climbs;
      values = λ key.
          ap (λ (c : Content). value_in c t.table.number key) there.is
          ∙ value_read there.slot r there.trees there.history place t own.tree key (subst (λ (c : Content). IsRegular c) there.is regular) rise surveyed.names.is_record.once at own.at up
          ∙ ap (λ (o : Option (Version PageChange)). option_and_then (λ v. put_of v.change) (option_map version_in o)) (
          ap₂ (λ (o p : Option (Version PageChange)). later_of o p) (ap (version_at key) (sym joined)) (sym (same key))
          ∙ sym (pages_show bytes m ids (number_at h place) h.newest es own.tree.leaves key climb climbs own.first own.leaves));
    }

inner_climbs : (bytes : List ℕ) (tables : List TableRoot) (uppers : List Upper) (place : ℕ) → HaveUppers bytes tables uppers → Climbs (entries_in uppers place)
inner_climbs bytes tables [] place have = tt
inner_climbs bytes [] (u ∷ uppers) place have = absurd have
inner_climbs bytes (t ∷ tables) (u ∷ uppers) zero have = have.0.climbs
inner_climbs bytes (t ∷ tables) (u ∷ uppers) (suc place) have = inner_climbs bytes tables uppers place have.1

pub pages_read : (bytes : List ℕ) (content : Content) (h : Held) (place : ℕ) (t : Table) → IsRegular content → IsReaderOf bytes h → Reads bytes content → slice_get (tables_in h) place ≡ Some t → ArePagesOf bytes content h place t.number
pages_read bytes content h place t regular (inl (blank, none)) reads at =
    let gone : slice_get (tables_of []) place ≡ Some t = subst (λ (l : List TableRoot). slice_get (tables_of l) place ≡ Some t) none.0 at in absurd cc
pages_read bytes content h place t regular (inr (where_it, w, surveyed, same)) reads at =
    let root = unmapped_at (λ (x : TableRoot). x.table) w.record.tables place t (subst (λ (x : Held). slice_get (tables_in x) place ≡ Some t) same at) in
    subst (λ (x : Held). ArePagesOf bytes content x place t.number) (sym same)
    (subst (λ (x : Table). ArePagesOf bytes content (held_of w) place x.number) root.2
    (pages_surveyed bytes content where_it w place root.0 regular surveyed reads root.1 (inner_climbs bytes w.record.tables w.uppers.items place surveyed.have)))

-- they have all rows
pub whole_pages : (bytes : List ℕ) (content : Content) (h : Held) (place number : ℕ) (are : ArePagesOf bytes content h place number) → AreWholePages bytes content h place number are.pages
whole_pages bytes content h place number are =
    let pages = are.pages in
    let up : Ascends None (join pages) = pages_ascend (entries_at h place) pages are.climbs are.between in
    let all : (key v : List ℕ) → Member (key, v) (rows_in pages) ↔ (value_in content number key ≡ Some v) = (λ key v. (
      (λ there. are.values key ∙ to_value None (join pages) key v up (subst (λ (l : List KeyValue). Member (key, v) l) (rows_joined pages) there)),
      (λ is. subst (λ (l : List KeyValue). Member (key, v) l) (sym (rows_joined pages)) (from_value (join pages) key v (sym (are.values key) ∙ is))),
    )) in
    let order : InOrder Up (rows_in pages) = subst (λ (l : List KeyValue). InOrder Up l) (sym (rows_joined pages)) (puts_ascend None (join pages) up) in
    record {
      has = are.has;
      count = as_many (entries_at h place) pages are.between;
      up = record { all = all; in_order = order };
      down = record {
        all = λ key v. ((λ there. (all key v).0 (turned_member (key, v) (rows_in pages) there)), (λ is. member_turned (key, v) (rows_in pages) ((all key v).1 is)));
        in_order = turned_order (rows_in pages) order;
      };
      under = λ i page r at there. key_under (entries_at h place) pages i page r are.climbs are.between at there;
    }

-- ---- one key

-- what a leaf says of a key that stands below its entry, all leaves say
of_all : (key : List ℕ) (bytes : List ℕ) (es : List Entry) (leaves : List (List Row)) (i : ℕ) (m : Marks) (ids : List ℕ) (leaf : HeldLeaf) → AreLeaves bytes es None leaves → IsUnderKey es key i → IsLeafAt bytes es i m ids leaf → version_at key (join (map (seen_rows m ids) leaves)) ≡ version_at key leaf.page
of_all key bytes es leaves i m ids leaf are under at = page_of_key key es (map (seen_rows m ids) leaves) i leaf.page (between_seen bytes m ids es leaves are) under (page_at bytes es leaves i m ids leaf are at)

key_value : (bytes : List ℕ) (es : List Entry) (leaves : List (List Row)) (key : List ℕ) (m : Marks) (ids : List ℕ) (newest : Option (Version PageChange)) (v : Option (List ℕ)) → first_key es ≡ Some [] → AreLeaves bytes es None leaves → IsValueOf bytes es key m ids newest v → v ≡ value_with key (join (map (seen_rows m ids) leaves)) newest
key_value bytes [] leaves key m ids newest v first are is = absurd cc
key_value bytes (e ∷ es) leaves key m ids newest v first are (i, leaf, under, at, is) =
    is ∙ ap (λ (o : Option (Version PageChange)). option_and_then (λ x. put_of x.change) (option_map version_in (later_of o newest))) (sym (of_all key bytes (e ∷ es) leaves i m ids leaf are under at))

value_surveyed : (bytes : List ℕ) (content : Content) (where_it : Place) (w : Whole) (place : ℕ) (t : TableRoot) (key : List ℕ) (v : Option (List ℕ)) → IsRegular content → SurveysWhole bytes where_it w → Reads bytes content → slice_get w.record.tables place ≡ Some t → HasValue bytes (held_of w) place key v → v ≡ value_in content t.table.number key
value_surveyed bytes content where_it w place t key v regular surveyed reads at has =
    let r = w.record in
    let m : Marks = marks_of r in
    let ids : List ℕ = r.snapshot.ids in
    let h : Held = held_of w in
    let es : List Entry = entries_in w.uppers.items place in
    let there = survey_read bytes where_it w content surveyed reads in
    let own = tree_at bytes r.tables w.uppers.items there.trees place t surveyed.have there.have at in
    let seen : List (List Row) = map (seen_rows m ids) own.tree.leaves in
    let joined : join seen ≡ kept_of r (tree_rows own.tree) = seen_joined m ids own.tree.leaves in
    let up : Ascends None (kept_of r (tree_rows own.tree)) = subst (λ (l : List Row). Ascends None l) joined (pages_ascend es seen (inner_climbs bytes r.tables w.uppers.items place surveyed.have) (between_seen bytes m ids es own.tree.leaves own.leaves)) in
    let rise : KeysRise (join there.history.leaves) = history_rises bytes r.history there.history there.there in
    key_value bytes es own.tree.leaves key m ids (record_at (number_at h place) key h.newest) v own.first own.leaves has
    ∙ ap (λ (l : List Row). value_with key l (record_at (number_at h place) key h.newest)) joined
    ∙ ap (λ (n : ℕ). value_with key (kept_of r (tree_rows own.tree)) (record_at n key h.newest)) (number_is r.tables place t at)
    ∙ ap (λ (l : List HistoryRecord). value_with key (kept_of r (tree_rows own.tree)) (record_at t.table.number key (newest_kept m ids l))) there.records
    ∙ sym (value_read there.slot r there.trees there.history place t own.tree key (subst (λ (c : Content). IsRegular c) there.is regular) rise surveyed.names.is_record.once at own.at up)
    ∙ sym (ap (λ (c : Content). value_in c t.table.number key) there.is)

pub value_is : (bytes : List ℕ) (content : Content) (h : Held) (place : ℕ) (t : Table) (key : List ℕ) (v : Option (List ℕ)) → IsRegular content → IsReaderOf bytes h → Reads bytes content → slice_get (tables_in h) place ≡ Some t → HasValue bytes h place key v → v ≡ value_in content t.number key
value_is bytes content h place t key v regular (inl (blank, none)) reads at has =
    let gone : slice_get (tables_of []) place ≡ Some t = subst (λ (l : List TableRoot). slice_get (tables_of l) place ≡ Some t) none.0 at in absurd cc
value_is bytes content h place t key v regular (inr (where_it, w, surveyed, same)) reads at has =
    let root = unmapped_at (λ (x : TableRoot). x.table) w.record.tables place t (subst (λ (x : Held). slice_get (tables_in x) place ≡ Some t) same at) in
    subst (λ (x : Table). v ≡ value_in content x.number key) root.2
    (value_surveyed bytes content where_it w place root.0 key v regular surveyed reads root.1 (subst (λ (x : Held). HasValue bytes x place key v) same has))

-- ---- the tables

pub reader_tables : (bytes : List ℕ) (content : Content) (h : Held) → IsReaderOf bytes h → Reads bytes content → HasTables content (tables_in h)
reader_tables bytes content h (inl (blank, none)) reads =
    subst (λ (l : List TableRoot). HasTables content (tables_of l)) (sym none.0)
    (subst (λ (c : Content). HasTables c []) (one_content bytes nothing content (inl (blank, refl)) reads) (tables_read nothing [] refl tt))
reader_tables bytes content h (inr (where_it, w, surveyed, same)) reads =
    let there = survey_read bytes where_it w content surveyed reads in
    subst (λ (x : Held). HasTables content (tables_in x)) (sym same) (tables_read content w.record.tables (ap (λ (c : Content). c.tables) there.is) surveyed.names.is_record.climb)

-- ---- damage

pub fault_no_content : (bytes : List ℕ) (at want found : ℕ) (content : Content) → LeafIsAtFault bytes at want found → Reads bytes content → ⊥
fault_no_content bytes at want found content fault (inl (blank, none)) = no_blank bytes fault.slot fault.there.chosen blank
fault_no_content bytes at want found content fault (inr (s, on, same)) =
    let kept : s.kept ≡ fault.names = kept_is bytes fault.slot s fault.names fault.there.chosen fault.there.is_record fault.there.is on in
    let have : HaveTrees bytes fault.names.tables s.trees = subst (λ (r : Record). HaveTrees bytes r.tables s.trees) kept (trees_on bytes s on) in
    let tree = among_at bytes fault.names.tables s.trees fault.table fault.among.0 have fault.among.1 fault.among.2 in
    let own : List Entry = bottom (root_own fault.table.root) tree.0.layers in
    let one = one_inner bytes fault.table.root own fault.es (places (inner_blocks table_kind (root_own fault.table.root) tree.0.layers)) fault.addrs (tree_read bytes fault.table.root tree.0 tree.1) fault.inner in
    let are : AreLeaves bytes fault.es None tree.0.leaves = subst (λ (l : List Entry). AreLeaves bytes l None tree.0.leaves) one.0 (tree_leaves bytes fault.table.root tree.0 tree.1) in
    no_leaves bytes fault.front fault.entry fault.others tree.0.leaves fault.leaf.none (subst (λ (l : List Entry). AreLeaves bytes l None tree.0.leaves) fault.is are)
  where
    no_leaves : (bytes : List ℕ) (front : List Entry) (e : Entry) (others : List Entry) (leaves : List (List Row)) → NoneUnder bytes e (first_key others) → AreLeaves bytes (front ++ e ∷ others) None leaves → ⊥
    no_leaves bytes [] e others [] none are = are
    no_leaves bytes [] e others (rows ∷ leaves) none are = none rows (subst (λ (k : Option (List ℕ)). IsUnder bytes e k rows) (key_none others) are.0)
    no_leaves bytes (x ∷ front) e others [] none are = are
    no_leaves bytes (x ∷ front) e others (rows ∷ leaves) none are = no_leaves bytes front e others leaves none are.1
