-- The trees of a checkpoint, over its writing and over what goes on.
use Rattle.std.proofs.Common.{◌≡◌, ◌⊎◌, ◌∙◌, ◌+◌, ◌≤◌, ℕ, true, false, List, [], ◌∷◌, length, Option, Some, None, refl, ap, sym, subst, inl, inr, arith}
use Rattle.std.specs.List.{Contains}
use Rattle.std.specs.Prelude.{◌==◌, zero, suc, MatchOption, slice_get}
use Rattle.std.proofs.lemmas.Bool.{cases_eq, false≢true, ne_eqb}
use Rattle.device_layout.specs.declared.addr.Addr.{Addr}
use Rattle.kv_model.specs.History.{Table}
use Rattle.item.specs.declared.Change.{Change}
use Rattle.kv_model.specs.Machine.{Machine, Transaction, name_of, of_some, transaction_of}
use Rattle.kv_model.specs.Valid.{Valid}
use Rattle.reconcile.specs.Shows.{shown_at}
use Rattle.catalog.specs.Known.{NumbersAscend}
use Rattle.snapshot.specs.Matters.{AreUnended}
use Rattle.snapshot.specs.Sight.{Ascends, IsSight, Sight, is_listed}
use Rattle.stamp.specs.declared.Name.{Name}
use Rattle.stamp.specs.declared.Version.{Version}
use Rattle.stored.specs.HistoryTree.{HistoryTree}
use Rattle.stored.specs.Records.{Record}
use Rattle.stored.specs.TableTree.{Entry, TableTree}
use Rattle.stored.specs.Tree.{join}
use Rattle.recover_open.specs.Bare.{tree_rows}
use Rattle.tree_open.specs.declared.place.TreePlace.{TreePlace}
use Rattle.ckpt_content.specs.Checkpoints.{AreRowsOf, IsRowsOf}
use Rattle.ckpt_step.specs.Floors.{AreNewestBefore, FollowsFrom, Respects, is_before}
use Rattle.ckpt_step.specs.Halves.{AreOnShelf, AreParted}
use Rattle.ckpt_step.specs.Parts.{AreBelowFloor, part_in, part_leaves, part_of}
use Rattle.ckpt_step.specs.Rooms.{Written}
use Rattle.ckpt_step.specs.Moments.{CapturesBefore, Moment, RowsServe, Serves, TreesServe}
use Rattle.tree_dir.specs.declared.leaf.Leaf.{Leaf}
use Rattle.tree_open.specs.Trees.{HasTree, IsPlaceOf}
use Rattle.tree_write.specs.Writes.{LeadApart}
use Rattle.ckpt_step.specs.Records.{roots_by_name}
use Rattle.ckpt_step.specs.Runs.{made_of}
use Rattle.ckpt_step.specs.Trees.{AreTreesAt, roots_of}
use Rattle.ckpt_step.proofs.CleanTrees.{shown_before}
use Rattle.ckpt_step.proofs.PartNames.{part_low, part_shows}
use Rattle.ckpt_step.proofs.SeenBefore.{served_before}
use Rattle.ckpt_step.proofs.Floors.{not_before}
use Rattle.ckpt_step.proofs.Made.{made_at, tree_there}
use Rattle.ckpt_step.proofs.Members.{none_some, some_same}

-- ---- the trees of a new checkpoint

-- the rows of the tree at a place
pub rows_at : (m : Machine) (known : List Table) (trees : List TableTree) (i : ℕ) (t : Table) (tree : TableTree) → AreRowsOf m known trees → slice_get known i ≡ Some t → slice_get trees i ≡ Some tree → IsRowsOf m t (tree_rows tree)
rows_at m [] trees i t tree are at also = absurd (none_some at)
rows_at m (u ∷ known) [] i t tree are at also = absurd are
rows_at m (u ∷ known) (x ∷ trees) zero t tree are at also = subst (λ (z : Table). IsRowsOf m z (tree_rows tree)) (some_same at) (subst (λ (y : TableTree). IsRowsOf m u (tree_rows y)) (some_same also) are.0)
rows_at m (u ∷ known) (x ∷ trees) (suc i) t tree are at also = rows_at m known trees i t tree are.1 at also

-- what serves as the rows of the tree at a place
pub serve_at : (n : Moment) (known : List Table) (trees : List TableTree) (i : ℕ) (t : Table) (tree : TableTree) → TreesServe n known trees → slice_get known i ≡ Some t → slice_get trees i ≡ Some tree → RowsServe n t (tree_rows tree)
serve_at n [] trees i t tree are at also = absurd (none_some at)
serve_at n (u ∷ known) [] i t tree are at also = absurd are
serve_at n (u ∷ known) (x ∷ trees) zero t tree are at also = subst (λ (z : Table). RowsServe n z (tree_rows tree)) (some_same at) (subst (λ (y : TableTree). RowsServe n u (tree_rows y)) (some_same also) are.0)
serve_at n (u ∷ known) (x ∷ trees) (suc i) t tree are at also = serve_at n known trees i t tree are.1 at also

-- lead: the leaves of each tree lead apart
module _ (known : List Table) (next : ℕ) (ascend : NumbersAscend 1 known next) (places : List TreePlace) (trees : List TableTree) (count : length places ≡ length known) (bytes : List ℕ) (there : AreTreesAt bytes places trees) (r : Record) (history : HistoryTree) (a : Addr) (tables : r.tables ≡ roots_by_name known (roots_of places))
    (leaves : List Leaf) (written : Written) (n : Moment) (valid : Valid n.world.machine) (are : TreesServe n known trees) (parted : AreParted known leaves written places trees) (shelved : AreOnShelf known leaves written places trees n.world.shelf) (lead : (i : ℕ) (p : TreePlace) → slice_get places i ≡ Some p → LeadApart p.leaves.items) where
  -- a leaf that is as it lies has the rows of its block, and the part of one whose names are below a floor has the newest before it
  pub follows_new : (floor : Name) → Respects n.world.machine floor → CapturesBefore n.world.machine n.checkpoint floor → FollowsFrom (Some (made_of r known trees history a)) known [] leaves written places floor n.world
  follows_new floor respects captures = record {
    respects = respects;
    leaf = λ i t p tree l at stands has mine its dead.
        let here = made_at known next ascend places trees count bytes there r history a tables i t p tree at stands has in
        record {
          before = λ part found below. before floor captures i t p tree l part at stands here mine its found below;
          same = shelved i t p tree l at stands here mine its;
        };
    since = λ l mine live. absurd (false≢true live);
  } where
    before : (floor : Name) → CapturesBefore n.world.machine n.checkpoint floor → (i : ℕ) (t : Table) (p : TreePlace) (tree : TableTree) (l : Leaf) (part : List Entry) → slice_get known i ≡ Some t → slice_get places i ≡ Some p → slice_get trees i ≡ Some tree → Contains leaves l → l.table ≡ t.number → part_in written l ≡ Some part → AreBelowFloor floor part
        → AreNewestBefore n.world.machine floor leaves t.number l (join (part_leaves p tree (part_of written l)))
    before floor captures i t p tree l part at stands here mine its found below key under =
        let one = tree_there bytes places trees i p there stands in
        let same : one.0 ≡ tree = some_same (sym one.1 ∙ here) in
        let on_device : HasTree bytes p.root tree = subst (λ (x : TableTree). HasTree bytes p.root x) same one.2 in
        let is : IsPlaceOf p tree = subst (λ (x : TableTree). IsPlaceOf p x) same one.3 in
        let by_parts = parted i t p tree at stands here in
        let apart = lead i p stands in
        let own : part_of written l ≡ part = ap (λ (o : Option (List Entry)). of_some [] (λ (es : List Entry). es) o) found in
        let rows = join (part_leaves p tree (part_of written l)) in
        let low = part_low bytes [] leaves t.number written p tree on_device is apart by_parts floor l mine its refl (subst (λ (es : List Entry). AreBelowFloor floor es) (sym own) below) in
        let serves = (serve_at n known trees i t tree are at here).serve key in
        served_before n floor t.number key (shown_at key rows) valid captures
        (subst (λ (o : Option (Version Change)). Serves n t.number key o) (part_shows bytes [] leaves t.number written p tree on_device is apart by_parts (λ x there_too its_too. refl) l mine its key under) serves)
        (λ v shown. shown_before floor key rows v (by_parts.parts l mine its refl).rows_fit.fit low shown)

-- ---- the floor of a checkpoint

pub from_low : (low : ℕ) (ids : List ℕ) (high : ℕ) (id : ℕ) → Ascends low ids high → is_listed ids id ≡ true → low ≤ id
from_low low [] high id ascends listed = absurd cc
from_low low (other ∷ ids) high id ascends listed = elim (cases_eq other id) [
  | inl same ↦ omega (arith, ascends.0, same)
  | inr differs ↦ let isnt : (other == id) ≡ false = ne_eqb other id differs in omega (arith, ascends.0, from_low (other + 1) ids high id ascends.1 (rw isnt at listed))
]

-- no name that has not ended when it was taken is before it, nor one that comes
pub respects_now : (m : Machine) (s : Sight) → s.run ≡ m.run → s.max ≡ m.next → IsSight s → AreUnended m s.list → Respects m (record { run = s.run; id = s.min })
respects_now m s run max sight unended = record { next = inr (run, omega (arith, order s.min s.list s.max sight.ascending, max)); living = λ session. each session (transaction_of m session) refl }
  where
    order : (low : ℕ) (ids : List ℕ) (high : ℕ) → Ascends low ids high → low ≤ high
    order low [] high ascends = ascends
    order low (id ∷ ids) high ascends = omega (arith, ascends.0, order (id + 1) ids high ascends.1)

    past : (session : ℕ) (t : Transaction) → transaction_of m session ≡ Some t → (t.id ≡ 0) ⊎ (s.min ≤ t.id)
    past session t there = elim (cases_eq t.id 0) [
      | inl none ↦ inl none
      | inr some ↦ inr (from_low s.min s.list s.max t.id sight.ascending (unended.all t.id (record { session = session; transaction = t; there = there; drawn = omega (arith, some); same = refl })))
    ]

    each : (session : ℕ) (o : Option Transaction) → transaction_of m session ≡ o → MatchOption o (Unit {0}) (λ t. is_before (record { run = s.run; id = s.min }) (name_of m t) ≡ false)
    each session None there = tt
    each session (Some t) there = not_before (record { run = s.run; id = s.min }) (name_of m t) (omega (arith, run)) (λ same. past session t there)
