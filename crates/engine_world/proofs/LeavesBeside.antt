-- The other leaves, where one gives way to leaves in no frame: they stand as before.
use Rattle.std.proofs.Common.{◌≡◌, ◌≢◌, ◌<◌, ◌+◌, ◌^◌, ℕ, refl, ap, sym, ◌∙◌, List, [], ◌++◌, inl, inr, subst, arith}
use Rattle.std.specs.Prelude.{Option, Some, None, option_and_then, slice_set}
use Rattle.std.specs.List.{Contains}
use Rattle.std.specs.Option.{option_to_list}
use Rattle.std.proofs.lemmas.Bool.{cases_eq}
use Rattle.std.proofs.lemmas.List.{get_or-set_other}
use Rattle.std.proofs.lemmas.List.Elements.{All-contains}
use Rattle.std.proofs.lemmas.Option.{same_Some}
use Rattle.item.specs.declared.Change.{Change}
use Rattle.stamp.specs.declared.Version.{Version}
use Rattle.kv_model.specs.Holds.{Descends}
use Rattle.kv_model.specs.Ordered.{Older}
use Rattle.row_page.specs.Rows.{Row}
use Rattle.reconcile.specs.Shows.{shown_at}
use Rattle.tree_dir.specs.declared.leaf.Framed.{Framed}
use Rattle.tree_dir.specs.declared.leaf.Leaf.{Leaf}
use Rattle.tree_dir.specs.GivingWay.{StandFor}
use Rattle.tree_dir.specs.Leaves.{Directory, leaf_under}
use Rattle.tree_dir.proofs.Parting.{under-has}
use Rattle.update_chain.specs.EventLaws.{StandsFor}
use Rattle.call_steps.specs.declared.frame.FramePiece.{FramePiece}
use Rattle.call_steps.specs.Tables.{empty}
use Rattle.engine_world.specs.Leaves.{FramesStand, IsLaid, LeafInFrame, LeafStands, LeavesOwned, TablesBegun, emptied, generation_at}
use Rattle.engine_world.specs.Stands.{Engine, Stands}
use Rattle.engine_world.specs.Worlds.{Records, World}
use Rattle.engine_world.proofs.FrameWords.{emptied-stand, generation-beside}
use Rattle.engine_world.proofs.Homes.{in-its-frame, one-leaf, same-id}
use Rattle.engine_world.proofs.Moves.{get-set-other}

-- others stand where the leaf stood, which goes out of its frame; the other leaves have the rows that they had, and the history what it kept of them
pub record IsReplaced (e : Engine) (w : World) (l : Leaf) (framed : Framed) (dir : Directory) (made : List Leaf) (shelf : ℕ → List Row) (records : Records) : Type 0 where
  pub stands : Stands e w
  pub there : Contains e.hub.dir.leaves l
  pub placed : l.frame ≡ Some framed
  pub gave : StandFor e.hub.dir dir l made
  pub others : (id : ℕ) → id < e.hub.dir.next → shelf id ≡ w.shelf id
  pub kept : (id : ℕ) → id < e.hub.dir.next → (key : List ℕ) → records id key ≡ w.records id key

module _ (e : Engine) (w : World) (l : Leaf) (framed : Framed) (dir : Directory) (made : List Leaf) (shelf : ℕ → List Row) (records : Records) (g : IsReplaced e w l framed dir made shelf records) where
  abbrev pub leaves : List Leaf
  leaves = e.hub.dir.leaves

  abbrev pub pieces : List FramePiece
  pieces = slice_set e.pieces framed.frame (emptied e.pieces framed.frame)

  abbrev pub states : List ℕ
  states = slice_set e.states framed.frame (empty (generation_at e.pieces framed.frame + 1))

  abbrev pub StandNow : Leaf → Type 0
  StandNow x = LeafStands w.machine shelf records dir.leaves pieces states x

  pub same-leaf : (x : Leaf) → Contains leaves x → x.id ≡ l.id → x ≡ l
  same-leaf x there same = same-id e.hub.dir x l g.stands.dir there g.there same

  below : (x : Leaf) → Contains leaves x → x.id < e.hub.dir.next
  below x there = All-contains (λ (y : Leaf). y.id < e.hub.dir.next) leaves x g.stands.dir.below there

  pub mine : LeafInFrame w.machine w.shelf w.records leaves e.pieces e.states l
  mine = in-its-frame w.machine w.shelf w.records leaves e.pieces e.states l framed g.placed (g.stands.leaves l g.there)

  -- none of them is in its frame
  pub frames-apart : (x : Leaf) → Contains leaves x → x.id ≢ l.id → (laid : IsLaid e.pieces e.states x) → laid.framed.frame ≢ framed.frame
  frames-apart x there other laid same = other (ap (λ (y : Leaf). y.id) (one-leaf e.hub.dir e.pieces e.states x l g.stands.dir there g.there laid mine.laid (same ∙ ap (λ (f : Framed). f.frame) (same_Some framed mine.laid.framed (sym g.placed ∙ mine.laid.placed)))))

  still-laid : (x : Leaf) → Contains leaves x → x.id ≢ l.id → IsLaid e.pieces e.states x → IsLaid pieces states x
  still-laid x there other laid = let apart = frames-apart x there other laid in record {
    framed = laid.framed;
    placed = laid.placed;
    frame = laid.frame;
    there = ap (option_and_then (λ (p : FramePiece). p.frame)) (get-set-other e.pieces framed.frame laid.framed.frame (emptied e.pieces framed.frame) apart) ∙ laid.there;
    table = laid.table;
    id = laid.id;
    generation = generation-beside e.pieces framed.frame (emptied e.pieces framed.frame) laid.framed.frame apart ∙ laid.generation;
    below = laid.below;
    word = get_or-set_other e.states framed.frame laid.framed.frame (empty (generation_at e.pieces framed.frame + 1)) 0 apart ∙ laid.word;
  }

  pub under-then : (x : Leaf) → Contains leaves x → (key : List ℕ) → leaf_under x.table key dir.leaves ≡ Some x → leaf_under x.table key leaves ≡ Some x
  under-then x there key now = by (leaf_under x.table key leaves) refl where
    by : (o : Option Leaf) → leaf_under x.table key leaves ≡ o → leaf_under x.table key leaves ≡ Some x
    by None was = let clash : None ≡ Some x = sym (g.gave.under_none x.table key was) ∙ now in absurd cc
    by (Some y) was = let has = under-has e.hub.dir g.stands.dir x.table key y was in elim (cases_eq y.id l.id) [
      | inr other ↦ was ∙ (sym (g.gave.under_other x.table key y other was) ∙ now)
      | inl same ↦
          let is = same-leaf y has.there same in
          let table = ap (λ (z : Leaf). z.table) (sym is) ∙ has.table in
          let n = g.gave.under_new key (ap (λ t. leaf_under t key leaves) table ∙ (was ∙ ap (λ (z : Leaf). Some z) is)) in
          let one = same_Some n.0 x (sym n.2 ∙ (ap (λ t. leaf_under t key dir.leaves) table ∙ now)) in
          let ids = ap (λ (z : Leaf). z.id) one in
          absurd (omega (arith, ids, g.gave.later n.0 n.1, below x there))
    ]

  pub other-stands : (x : Leaf) → Contains leaves x → x.id ≢ l.id → StandNow x
  unfolding still-laid
  other-stands x there other = by (g.stands.leaves x there) where
    by : LeafStands w.machine w.shelf w.records leaves e.pieces e.states x → StandNow x
    by (inl old) = inl (record {
      laid = still-laid x there other old.laid;
      keys = λ key now. old.keys key (under-then x there key now);
      bare = λ key outside. old.bare key (λ was. outside (g.gave.under_other x.table key x other was));
      lies = λ some. old.lies some ∙ sym (g.others x.id (below x there));
      none = λ key. g.kept x.id (below x there) key ∙ old.none key;
    })
    by (inr old) = let rows = sym (g.others x.id (below x there)) in let kept : (key : List ℕ) → w.records x.id key ≡ records x.id key = λ key. sym (g.kept x.id (below x there) key) in inr (record {
      none = old.none;
      keys = λ key now. subst (λ (vs : List (Version Change)). StandsFor w.machine x.table key [] (shown_at key (shelf x.id)) vs) (kept key)
          (subst (λ (xs : List Row). StandsFor w.machine x.table key [] (shown_at key xs) (w.records x.id key)) rows (old.keys key (under-then x there key now)));
      ordered = λ key now. subst (λ (vs : List (Version Change)). Descends Older (option_to_list (shown_at key (shelf x.id)) ++ vs)) (kept key)
          (subst (λ (xs : List Row). Descends Older (option_to_list (shown_at key xs) ++ w.records x.id key)) rows (old.ordered key (under-then x there key now)));
      bare = λ key outside. let was = old.bare key (λ was. outside (g.gave.under_other x.table key x other was)) in (subst (λ (xs : List Row). shown_at key xs ≡ None) rows was.0, sym (kept key) ∙ was.1);
    })

  -- a key that lies in one of the new leaves lay in the leaf
  pub under-old : (n : Leaf) → Contains made n → (key : List ℕ) → leaf_under n.table key dir.leaves ≡ Some n → leaf_under l.table key leaves ≡ Some l
  under-old n there key under = by (leaf_under l.table key leaves) refl where
    now : leaf_under l.table key dir.leaves ≡ Some n
    now = ap (λ t. leaf_under t key dir.leaves) (sym (g.gave.own n there).0) ∙ under

    by : (o : Option Leaf) → leaf_under l.table key leaves ≡ o → leaf_under l.table key leaves ≡ Some l
    by None was = let clash : None ≡ Some n = sym (g.gave.under_none l.table key was) ∙ now in absurd cc
    by (Some y) was = let has = under-has e.hub.dir g.stands.dir l.table key y was in elim (cases_eq y.id l.id) [
      | inl same ↦ was ∙ ap (λ (z : Leaf). Some z) (same-leaf y has.there same)
      | inr other ↦ let ids = ap (λ (z : Leaf). z.id) (same_Some y n (sym (g.gave.under_other l.table key y other was) ∙ now)) in absurd (omega (arith, ids, g.gave.later n there, below y has.there))
    ]

  -- ---- the tables

  pub still-begun : (n : Leaf) → Contains made n → TablesBegun e.hub.tables.tables dir.leaves
  still-begun n new place t at = let x = g.stands.begun place t at in elim (cases_eq x.0.id l.id) [
    | inr other ↦ (x.0, g.gave.others x.0 x.1 other, x.2)
    | inl same ↦ (n, g.gave.news n new, (g.gave.own n new).0 ∙ (ap (λ (y : Leaf). y.table) (sym (same-leaf x.0 x.1 same)) ∙ x.2))
  ]

  pub still-owned : LeavesOwned e.hub.tables.tables dir.leaves
  still-owned x there = elim (g.gave.members x there) [
    | inl old ↦ g.stands.owned x old.0
    | inr new ↦ let o = g.stands.owned l g.there in (o.0, o.1, o.2, (g.gave.own x new).0 ∙ o.3)
  ]

  -- ---- the frames

  pub frames-stand : generation_at e.pieces framed.frame + 1 < 2 ^ 62 → FramesStand (slice_set e.pieces framed.frame (emptied e.pieces framed.frame)) (slice_set e.states framed.frame (empty (generation_at e.pieces framed.frame + 1)))
  frames-stand last = let x = mine in
      emptied-stand e.pieces e.states l x.laid framed.frame (ap (λ (f : Framed). f.frame) (same_Some x.laid.framed framed (sym x.laid.placed ∙ g.placed))) last g.stands.frames
