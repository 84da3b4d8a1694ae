-- The leaves of a tree, and the tree.
use Rattle.std.proofs.Common.{◌≡◌, ℕ, ◌+◌, ◌<◌, ◌≤◌, List, [], ◌∷◌, ◌++◌, length, take, drop, get_or, Option, Some, None, refl, sym, ◌∙◌, ap, subst, inl, inr}
use Rattle.std.specs.Prelude.{map, ◌==◌, if◌then◌else◌}
use Rattle.std.specs.List.{AllByRecursion}
use Rattle.std.proofs.lemmas.Bool.{cases_Bool}
use Rattle.std.proofs.lemmas.List.{append-nil, map-append, take-append-drop, take_all, drop_all, length-append}
use Rattle.std.proofs.lemmas.List.Concat.{flat_map-append}
use Rattle.checkpoint_record.proofs.Lists.{take_step}
use Rattle.device_layout.specs.declared.addr.Addr.{Addr}
use Rattle.row_page.specs.Rows.{Row, image}
use Rattle.stored.specs.Links.{is_nowhere}
use Rattle.stored.specs.Blocks.{Block, IsAddressed, IsAt, Holds}
use Rattle.stored.specs.Tree.{join, bottom, inner_blocks, leaf_blocks, tree_blocks, AllBear}
use Rattle.stored.specs.TableTree.{Entry, TableTree, Climbs, Stay, table_kind, first_key, root_entry}
use Rattle.stored.specs.Records.{Root}
use Rattle.device_leaf.specs.Leaves.{blocks_at}
use Rattle.device_leaf.proofs.Shapes.{all_front, all_join}
use Rattle.tree_open.specs.declared.place.TreePlace.{TreePlace}
use Rattle.tree_open.specs.Trees.{InnerIs, HasTree, places, leaf_addr, leaf_addrs, root_own}
use Rattle.tree_open.proofs.OneLayer.{AllAddressed, key_push, key_none}
use Rattle.tree_open.proofs.Descent.{tree_read, one_inner, leaf_more}
use Rattle.recover_open.specs.Leaves.{AreUnder, IsUnder, NoneUnder, AreLeaves, RowsAre, TreeIs}
use Rattle.recover_open.specs.declared.check.Tally.{Tally}
use Rattle.recover_open.specs.Tallies.{IsTallied}
use Rattle.recover_open.proofs.Keys.{from_here}
use Rattle.recover_open.specs.Damage.{EntrySpoils, LeavesSpoil, TreeSpoils}

-- ---- one leaf more

-- so many of the leaves of the first i entries are stored, and they have so many rows
pub record AreTallied (bytes : List ℕ) (own : List Entry) (i kept cells : ℕ) : Type 0 where
  pub leaves : List (List Row)
  pub are : AreLeaves bytes (take i own) (first_key (drop i own)) leaves
  pub stored : kept ≡ length (leaf_addrs (take i own))
  pub versions : cells ≡ length (join leaves)

leaves_push : (bytes : List ℕ) (front : List Entry) (e : Entry) (next : Option (List ℕ)) (leaves : List (List Row)) (rows : List Row) → AreLeaves bytes front (Some e.key) leaves → IsUnder bytes e next rows → AreLeaves bytes (front ++ e ∷ []) next (leaves ++ rows ∷ [])
leaves_push bytes [] e next [] rows are is = (is, tt)
leaves_push bytes [] e next (other ∷ leaves) rows are is = absurd are
leaves_push bytes (x ∷ front) e next [] rows are is = absurd are
leaves_push bytes (x ∷ front) e next (other ∷ leaves) rows are is = (
  subst (λ (k : Option (List ℕ)). IsUnder bytes x k other) (key_push front e next) are.0,
  leaves_push bytes front e next leaves rows are.1 is,
)

pub rows_push : (leaves : List (List Row)) (rows : List Row) → join (leaves ++ rows ∷ []) ≡ join leaves ++ rows
rows_push leaves rows = flat_map-append (λ (l : List Row). l) leaves (rows ∷ []) ∙ ap (λ (l : List Row). join leaves ++ l) (append-nil rows)

-- ---- while the leaves are read

pub leaves_more : (bytes : List ℕ) (own : List Entry) (i : ℕ) (e : Entry) (leaves : List (List Row)) (rows : List Row) → i < length own → e ≡ get_or own i e → AreLeaves bytes (take i own) (first_key (drop i own)) leaves → IsUnder bytes e (first_key (drop (i + 1) own)) rows
    → AreLeaves bytes (take (i + 1) own) (first_key (drop (i + 1) own)) (leaves ++ rows ∷ [])
leaves_more bytes own i e leaves rows lt is are leaf =
    let before : AreLeaves bytes (take i own) (Some e.key) leaves = subst (λ (k : Option (List ℕ)). AreLeaves bytes (take i own) k leaves) (ap first_key (from_here own i e lt is)) are in
    subst (λ (l : List Entry). AreLeaves bytes l (first_key (drop (i + 1) own)) (leaves ++ rows ∷ [])) (sym (take_step own i e lt is))
    (leaves_push bytes (take i own) e (first_key (drop (i + 1) own)) leaves rows before leaf)

pub leaves_spoilt : (bytes : List ℕ) (own : List Entry) (i : ℕ) (e : Entry) (leaves : List (List Row)) (at want found : ℕ) → i < length own → e ≡ get_or own i e → AreLeaves bytes (take i own) (first_key (drop i own)) leaves → EntrySpoils bytes e (first_key (drop (i + 1) own)) at want found
    → LeavesSpoil bytes own at want found
leaves_spoilt bytes own i e leaves at want found lt is are spoils =
    let here = from_here own i e lt is in
    record {
      front = take i own;
      entry = e;
      others = drop (i + 1) own;
      is = sym (take-append-drop i own) ∙ ap (λ (l : List Entry). take i own ++ l) here;
      leaves = leaves;
      before = subst (λ (k : Option (List ℕ)). AreLeaves bytes (take i own) k leaves) (ap first_key here) are;
      leaf = spoils;
    }

are_whole : (bytes : List ℕ) (es : List Entry) (i : ℕ) (leaves : List (List Row)) → length es ≤ i → AreLeaves bytes (take i es) (first_key (drop i es)) leaves → AreLeaves bytes es None leaves
are_whole bytes es i leaves le are = subst (λ (l : List Entry). AreLeaves bytes l None leaves) (take_all i es le) (subst (λ (l : List Entry). AreLeaves bytes (take i es) (first_key l) leaves) (drop_all i es le) are)

pub leaves_whole : (bytes : List ℕ) (own : List Entry) (i : ℕ) (leaves : List (List Row)) (rows : List Row) → length own ≤ i → AreLeaves bytes (take i own) (first_key (drop i own)) leaves → rows ≡ join leaves → RowsAre bytes own rows
leaves_whole bytes own i leaves rows le are is = record { leaves = leaves; are = are_whole bytes own i leaves le are; joined = is }

-- ---- no leaves where one is not there

no_leaves : (bytes : List ℕ) (front : List Entry) (e : Entry) (others : List Entry) (leaves : List (List Row)) → NoneUnder bytes e (first_key others) → AreLeaves bytes (front ++ e ∷ others) None leaves → ⊥
no_leaves bytes [] e others [] none are = are
no_leaves bytes [] e others (rows ∷ leaves) none are = none rows (subst (λ (k : Option (List ℕ)). IsUnder bytes e k rows) (key_none others) are.0)
no_leaves bytes (x ∷ front) e others [] none are = are
no_leaves bytes (x ∷ front) e others (rows ∷ leaves) none are = no_leaves bytes front e others leaves none are.1

-- ---- in the words of a tree

-- the block of an entry's leaf, where it is stored
abbrev own_block : Entry → List Row → List Block
own_block e rows = if is_nowhere e.link.addr then [] else record { place = e.link.addr; image = image rows } ∷ []

pub to_bear : (bytes : List ℕ) (es : List Entry) (next : Option (List ℕ)) (leaves : List (List Row)) → AreLeaves bytes es next leaves → AllBear table_kind es leaves × AllAddressed (leaf_blocks table_kind es leaves) × Holds bytes (leaf_blocks table_kind es leaves)
to_bear bytes [] next [] are = (tt, tt, tt)
to_bear bytes [] next (rows ∷ leaves) are = absurd are
to_bear bytes (e ∷ es) next [] are = absurd are
to_bear bytes (e ∷ es) next (rows ∷ leaves) are =
    let leaf = are.0.leaf in
    let rest = to_bear bytes es next leaves are.1 in
    let same : blocks_at e.link rows ≡ own_block e rows = append-nil (own_block e rows) in (
      (record { leaf = leaf.bears.leaf; empty = leaf.bears.empty; says = leaf.bears.says }, rest.0),
      all_join (λ (b : Block). IsAddressed b) (own_block e rows) (leaf_blocks table_kind es leaves) (subst (λ (l : List Block). AllAddressed l) same leaf.addressed) rest.1,
      all_join (λ (b : Block). IsAt bytes b) (own_block e rows) (leaf_blocks table_kind es leaves) (subst (λ (l : List Block). Holds bytes l) same leaf.holds) rest.2,
    )

to_stay : (bytes : List ℕ) (es : List Entry) (leaves : List (List Row)) → AreLeaves bytes es None leaves → Stay es leaves
to_stay bytes [] leaves are = tt
to_stay bytes (e ∷ es) [] are = tt
to_stay bytes (e ∷ es) (rows ∷ leaves) are = (subst (λ (k : Option (List ℕ)). AreUnder e k rows) (key_none es) are.0.keys, to_stay bytes es leaves are.1)

all_back : (P : Block → Type 0) (xs ys : List Block) → AllByRecursion P (xs ++ ys) → AllByRecursion P ys
all_back P [] ys all = all
all_back P (x ∷ xs) ys all = all_back P xs ys all.1

-- from a tree's words
from_bear : (bytes : List ℕ) (es : List Entry) (leaves : List (List Row)) → AllBear table_kind es leaves → Stay es leaves → AllAddressed (leaf_blocks table_kind es leaves) → Holds bytes (leaf_blocks table_kind es leaves) → AreLeaves bytes es None leaves
from_bear bytes [] [] bear stay addressed holds = tt
from_bear bytes [] (rows ∷ leaves) bear stay addressed holds = absurd bear
from_bear bytes (e ∷ es) [] bear stay addressed holds = absurd bear
from_bear bytes (e ∷ es) (rows ∷ leaves) bear stay addressed holds =
    let rest : List Block = leaf_blocks table_kind es leaves in
    let same : own_block e rows ≡ blocks_at e.link rows = sym (append-nil (own_block e rows)) in (
      record {
        leaf = record {
          bears = record { leaf = bear.0.leaf; empty = bear.0.empty; says = bear.0.says };
          addressed = subst (λ (l : List Block). AllAddressed l) same (all_front (λ (b : Block). IsAddressed b) (own_block e rows) rest addressed);
          holds = subst (λ (l : List Block). Holds bytes l) same (all_front (λ (b : Block). IsAt bytes b) (own_block e rows) rest holds);
        };
        keys = subst (λ (k : Option (List ℕ)). AreUnder e k rows) (sym (key_none es)) stay.0;
      },
      from_bear bytes es leaves bear.1 stay.1 (all_back (λ (b : Block). IsAddressed b) (own_block e rows) rest addressed) (all_back (λ (b : Block). IsAt bytes b) (own_block e rows) rest holds),
    )

pub tree_leaves : (bytes : List ℕ) (root : Root) (t : TableTree) → HasTree bytes root t → AreLeaves bytes (bottom (root_own root) t.layers) None t.leaves
tree_leaves bytes root t has =
    let upper : List Block = inner_blocks table_kind (root_own root) t.layers in
    let below : List Block = leaf_blocks table_kind (bottom (root_own root) t.layers) t.leaves in
    from_bear bytes (bottom (root_own root) t.layers) t.leaves has.is.bear has.is.parts.1 (all_back (λ (b : Block). IsAddressed b) upper below has.addressed) (all_back (λ (b : Block). IsAt bytes b) upper below has.holds)

-- ---- where the leaves stand

pub leaf_places : (bytes : List ℕ) (es : List Entry) (next : Option (List ℕ)) (leaves : List (List Row)) → AreLeaves bytes es next leaves → places (leaf_blocks table_kind es leaves) ≡ leaf_addrs es
leaf_places bytes [] next [] are = refl
leaf_places bytes [] next (rows ∷ leaves) are = absurd are
leaf_places bytes (e ∷ es) next [] are = absurd are
leaf_places bytes (e ∷ es) next (rows ∷ leaves) are =
    let rest : places (leaf_blocks table_kind es leaves) ≡ leaf_addrs es = leaf_places bytes es next leaves are.1 in
    elim (cases_Bool (e.link.addr.offset == 0)) [ inl is ↦ rw is rest | inr isnt ↦ rw isnt (ap (λ (l : List Addr). e.link.addr ∷ l) rest) ]

-- where the blocks of a tree stand
pub tree_places : (bytes : List ℕ) (root : Root) (t : TableTree) → HasTree bytes root t → places (tree_blocks table_kind (root_entry root.link) t) ≡ places (inner_blocks table_kind (root_own root) t.layers) ++ leaf_addrs (bottom (root_own root) t.layers)
tree_places bytes root t has =
    let upper : List Block = inner_blocks table_kind (root_own root) t.layers in
    map-append {A = Block} (λ b. b.place) upper (leaf_blocks table_kind (bottom (root_own root) t.layers) t.leaves)
    ∙ ap (λ (l : List Addr). places upper ++ l) (leaf_places bytes (bottom (root_own root) t.layers) None t.leaves (tree_leaves bytes root t has))

-- ---- the tree

module _ (bytes : List ℕ) (root : Root) (es : List Entry) (addrs : List Addr) (inner : InnerIs bytes root es addrs) (leaves : List (List Row)) (are : AreLeaves bytes es None leaves) where
  abbrev whole : TableTree
  whole = record { layers = inner.layers; leaves = leaves }

  abbrev own : List Entry
  own = bottom (root_own root) inner.layers

  here : AreLeaves bytes own None leaves
  here = subst (λ (l : List Entry). AreLeaves bytes l None leaves) inner.entries are

  pub whole_tree : HasTree bytes root whole
  whole_tree =
      let words = to_bear bytes own None leaves here in
      let upper : List Block = inner_blocks table_kind (root_own root) inner.layers in
      let below : List Block = leaf_blocks table_kind own leaves in
      record {
        is = record { levels = inner.levels; lead = inner.lead; bear = words.0; parts = (subst (λ (l : List Entry). Climbs l) inner.entries inner.climbs, to_stay bytes own leaves here) };
        addressed = all_join (λ (b : Block). IsAddressed b) upper below inner.addressed words.1;
        holds = all_join (λ (b : Block). IsAt bytes b) upper below inner.holds words.2;
      }

  -- its place
  pub tree_is : (p : TreePlace) (rows : List Row) → rows ≡ join leaves → p.root ≡ root → p.leaves.items ≡ map {A = Entry} (λ e. e.link) es → p.addrs.items ≡ addrs ++ leaf_addrs es → TreeIs bytes root p rows
  tree_is p rows joined is_root links stand = record {
    tree = whole;
    has = whole_tree;
    is_root = is_root;
    place = record {
      leaves = links ∙ ap (λ (l : List Entry). map {A = Entry} (λ e. e.link) l) inner.entries ∙ ap (λ (r : Root). map {A = Entry} (λ e. e.link) (bottom (root_own r) inner.layers)) (sym is_root);
      addrs = stand ∙ ap (λ (l : List Addr). l ++ leaf_addrs es) inner.stand ∙ ap (λ (l : List Entry). places (inner_blocks table_kind (root_own root) inner.layers) ++ leaf_addrs l) inner.entries
          ∙ sym (tree_places bytes root whole whole_tree) ∙ ap (λ (r : Root). places (tree_blocks table_kind (root_entry r.link) whole)) (sym is_root);
    };
    rows_are = joined;
  }

-- ---- no tree where it is damaged

pub spoilt_no_tree : (bytes : List ℕ) (root : Root) (at want found : ℕ) (t : TableTree) → TreeSpoils bytes root at want found → HasTree bytes root t → ⊥
spoilt_no_tree bytes root at want found t (inl inner) has = inner.none (bottom (root_own root) t.layers) (places (inner_blocks table_kind (root_own root) t.layers)) (tree_read bytes root t has)
spoilt_no_tree bytes root at want found t (inr leaf) has =
    let own : List Entry = bottom (root_own root) t.layers in
    let one = one_inner bytes root own leaf.es (places (inner_blocks table_kind (root_own root) t.layers)) leaf.addrs (tree_read bytes root t has) leaf.inner in
    let are : AreLeaves bytes leaf.es None t.leaves = subst (λ (l : List Entry). AreLeaves bytes l None t.leaves) one.0 (tree_leaves bytes root t has) in
    no_leaves bytes leaf.leaves.front leaf.leaves.entry leaf.leaves.others t.leaves leaf.leaves.leaf.none (subst (λ (l : List Entry). AreLeaves bytes l None t.leaves) leaf.leaves.is are)

-- ---- what is counted of the leaves

pub none_tallied : (bytes : List ℕ) (es : List Entry) → AreTallied bytes es 0 0 0
none_tallied bytes es = record { leaves = []; are = tt; stored = refl; versions = refl }

module _ (bytes : List ℕ) (es : List Entry) (i : ℕ) (e : Entry) (rows : List Row) (lt : i < length es) (is : e ≡ get_or es i e) (leaf : IsUnder bytes e (first_key (drop (i + 1) es)) rows) where
  stored_more : length (leaf_addrs (take (i + 1) es)) ≡ length (leaf_addrs (take i es)) + length (leaf_addr e.link.addr)
  stored_more =
      ap (λ (l : List Addr). length l) (sym (leaf_more es i e e.link.addr [] (leaf_addrs (take i es)) (leaf_addrs (take i es) ++ leaf_addr e.link.addr) lt is refl refl refl)) ∙ length-append (leaf_addrs (take i es)) (leaf_addr e.link.addr)

  pub tallied_more : (stored versions more total : ℕ) → AreTallied bytes es i stored versions → more ≡ stored + length (leaf_addr e.link.addr) → total ≡ versions + length rows → AreTallied bytes es (i + 1) more total
  tallied_more stored versions more total was added also = record {
    leaves = was.leaves ++ rows ∷ [];
    are = leaves_more bytes es i e was.leaves rows lt is was.are leaf;
    stored = added ∙ ap (λ n. n + length (leaf_addr e.link.addr)) was.stored ∙ sym stored_more;
    versions = also ∙ ap (λ n. n + length rows) was.versions ∙ sym (length-append (join was.leaves) rows) ∙ ap (λ (l : List Row). length l) (sym (rows_push was.leaves rows));
  }

pub tallied_whole : (bytes : List ℕ) (es : List Entry) (i : ℕ) (t : Tally) → length es ≤ i → AreTallied bytes es i t.leaves t.versions → IsTallied bytes es t
tallied_whole bytes es i t le was = record {
  leaves = was.leaves;
  are = are_whole bytes es i was.leaves le was.are;
  stored = was.stored ∙ ap (λ (l : List Entry). length (leaf_addrs l)) (take_all i es le);
  versions = was.versions;
}
