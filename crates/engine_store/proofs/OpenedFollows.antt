-- What the device has of each leaf of an engine that was opened on it: of the leaves that are in no frame what stands on the shelf.
use Rattle.std.proofs.Common.{◌≡◌, ◌⊎◌, false, ℕ, List, [], ◌∷◌, Option, Some, None, sym, ap, subst, ◌∙◌, inl, inr, arith}
use Rattle.std.specs.Prelude.{◌==◌, true, IsTrue, nat_lt}
use Rattle.std.specs.List.{AllByRecursion, Contains}
use Rattle.std.proofs.lemmas.Bool.{cases_Bool, false≢true, ltb-true}
use Rattle.device_layout.specs.declared.link.Link.{Link}
use Rattle.kv_model.specs.Content.{Content, start}
use Rattle.kv_model.specs.History.{Table}
use Rattle.leaf_load.specs.Loads.{are_surely_seen}
use Rattle.leaf_load.proofs.Early.{surely_seen}
use Rattle.leaf_rows.specs.Contents.{is_seen_row}
use Rattle.leaf_rows.specs.declared.marks.Marks.{Marks}
use Rattle.row_page.specs.Greatest.{durables_of, most_in, no_name}
use Rattle.row_page.specs.Rows.{Row}
use Rattle.snapshot.specs.Past.{is_below}
use Rattle.stamp.specs.declared.Name.{Name}
use Rattle.stored.specs.Stored.{Stored}
use Rattle.stored.specs.TableTree.{Entry, TableTree, root_entry}
use Rattle.stored.specs.Tree.{join}
use Rattle.tree_dir.specs.declared.leaf.Leaf.{Leaf}
use Rattle.tree_dir.specs.Leaves.{Directory}
use Rattle.tree_open.specs.declared.place.TreePlace.{TreePlace}
use Rattle.device_leaf.specs.Leaves.{LeafIs}
use Rattle.recover_open.proofs.OneLeaf.{one_leaf}
use Rattle.engine_world.specs.Worlds.{World}
use Rattle.reconcile.specs.declared.image.Moved.{Moved}
use Rattle.evict_step.specs.Kept.{Lists, list_of}
use Rattle.kept_open.specs.Laws.{WholeRowsOpen}
use Rattle.kept_open.specs.Opening.{shows}
use Rattle.ckpt_step.specs.Floors.{FollowsFrom, IsAsItLies, Respects}
use Rattle.ckpt_step.specs.Parts.{AreBelowFloor, has_rows, own_part, part_in, part_leaves, part_of}
use Rattle.ckpt_step.specs.Rooms.{Written}
use Rattle.ckpt_step.specs.Trees.{HasTreeAt}
use Rattle.ckpt_step.proofs.Links.{some_rows}
use Rattle.engine_store.specs.Marked.{IsLeafKept, IsUnmarked}

-- ---- names

-- an opening comes before each name
pub starts_below : (c : Content) → Respects (start c) no_name
starts_below c = record { next = inl (omega arith); living = λ session. tt }

none_below : (x : Name) → is_below x no_name ≡ true → ⊥
none_below x is = elim (cases_Bool (nat_lt x.run 0)) [
  | inl less ↦ let lt = ltb-true x.run 0 less in omega (arith, lt)
  | inr isnt ↦ elim (cases_Bool (x.run == 0)) [
    | inr other ↦ false≢true (rw (isnt, other) at is)
    | inl same ↦ let id : nat_lt x.id 0 ≡ true = rw (isnt, same) at is in let lt = ltb-true x.id 0 id in omega (arith, lt)
  ]
]

-- so no part is below it
no_part : (l : Leaf) (part : List Entry) → own_part l.entry ≡ Some part → AreBelowFloor no_name part → ⊥
no_part l part is below = elim (cases_Bool (l.entry.link.greatest.id == 0)) [
  | inl none ↦ let clash : None ≡ Some part = rw none at is in cc
  | inr some ↦
      let same : Some (l.entry ∷ []) ≡ Some part = rw some at is in
      let own : l.entry ∷ [] ≡ part = cc in
      none_below l.entry.link.greatest (subst (AreBelowFloor no_name) (sym own) below).0
]

-- ---- of unmarked leaves all is kept

unmarked_seen : (bytes : List ℕ) (marks : Marks) (ids : List ℕ) (link : Link) (rows : List Row) → are_surely_seen marks link.greatest link.durable ≡ true → LeafIs bytes link rows → AllByRecursion (λ (r : Row). IsTrue (is_seen_row marks ids r)) rows
unmarked_seen bytes marks ids link rows sure leaf =
    let says = leaf.bears.says in
    surely_seen marks ids rows (subst (λ (n : Name). IsTrue (are_surely_seen marks n (most_in (durables_of rows)))) says.greatest (subst (λ (k : ℕ). IsTrue (are_surely_seen marks link.greatest k)) says.durable sure))

-- a leaf without rows has none to keep
bare_seen : (bytes : List ℕ) (marks : Marks) (ids : List ℕ) (link : Link) (rows : List Row) → has_rows link ≡ false → LeafIs bytes link rows → AllByRecursion (λ (r : Row). IsTrue (is_seen_row marks ids r)) rows
bare_seen bytes marks ids link [] none leaf = tt
bare_seen bytes marks ids link (r ∷ rows) none leaf = absurd (false≢true (sym none ∙ some_rows (root_entry link) (r ∷ rows) leaf.bears (omega arith)))

-- The rows of the block are those on the shelf, where each key of which versions are kept has a row.
pub shelf_same : WholeRowsOpen → (bytes : List ℕ) (d : Directory) (marks : Marks) (ids : List ℕ) (lists : Lists) (shelf : ℕ → List Row) (was l : Leaf) (rows : List Row) (kept : IsLeafKept bytes d marks ids lists shelf was) → AllByRecursion (λ (v : Moved). shows kept.rows v.key ≡ true) (list_of lists was.id)
    → l.id ≡ was.id → l.entry ≡ was.entry → IsUnmarked marks l ⊎ (has_rows l.entry.link ≡ false) → LeafIs bytes l.entry.link rows → rows ≡ shelf l.id
shelf_same law bytes d marks ids lists shelf was l rows kept rowed id entry all leaf =
    let before : LeafIs bytes l.entry.link kept.rows = subst (λ (e : Entry). LeafIs bytes e.link kept.rows) (sym entry) kept.under.leaf in
    let seen : AllByRecursion (λ (r : Row). IsTrue (is_seen_row marks ids r)) kept.rows = elim all [
      | inl unmarked ↦ unmarked_seen bytes marks ids l.entry.link kept.rows unmarked.seen before
      | inr none ↦ bare_seen bytes marks ids l.entry.link kept.rows none before
    ] in
    one_leaf bytes l.entry.link rows kept.rows leaf before ∙ (sym (law marks ids kept.rows (list_of lists was.id) seen rowed) ∙ (sym kept.opened ∙ ap shelf (sym id)))

-- ---- all leaves

-- written: of each leaf what its own entry says
pub follows_from : (old : Option Stored) (known : List Table) (leaves : List Leaf) (written : Written) (places : List TreePlace) (w : World) → Respects w.machine no_name → ((l : Leaf) → Contains leaves l → part_in written l ≡ own_part l.entry)
    → ((t : Table) (p : TreePlace) (tree : TableTree) (l : Leaf) → HasTreeAt old t p tree → Contains leaves l → l.table ≡ t.number → IsAsItLies written l → join (part_leaves p tree (part_of written l)) ≡ w.shelf l.id) → FollowsFrom old known [] leaves written places no_name w
follows_from old known leaves written places w respects own same = record {
  respects = respects;
  leaf = λ i t p tree l known_at stands at there its dead. record { before = λ part is below. absurd (no_part l part (sym (own l there) ∙ is) below); same = λ lies. same t p tree l at there its lies };
  since = λ l there live. absurd (false≢true live);
}
