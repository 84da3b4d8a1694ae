-- The rows of a leaf that is evicted are the newest versions of its keys.
use Rattle.std.specs.Prelude.{◌≡◌, ℕ, List, [], ◌∷◌, ◌++◌, map, Option, Some, None, refl}
use Rattle.std.specs.List.{Contains}
use Rattle.std.specs.Option.{option_to_list}
use Rattle.std.proofs.Common.{inl, inr, sym, ◌∙◌, ap, subst}
use Rattle.std.proofs.lemmas.Bool.{cases_eq}
use Rattle.std.proofs.lemmas.List.{append-nil}
use Rattle.item.specs.declared.Change.{Change}
use Rattle.stamp.specs.declared.Version.{Version}
use Rattle.kv_model.specs.Captures.{ReconciledLists}
use Rattle.kv_model.specs.Holds.{Descends, Member}
use Rattle.kv_model.specs.Ordered.{Older}
use Rattle.kv_model.specs.Pending.{Update as ModelUpdate}
use Rattle.kv_model.specs.Reconciling.{EndedWhere, each_one, held_in}
use Rattle.kv_model.proofs.ReconciledKeys.{eviction-stands}
use Rattle.leaf_chains.specs.Slots.{chain_at}
use Rattle.leaf_rows.specs.Rows.{AreFit}
use Rattle.row_page.specs.Rows.{Row}
use Rattle.reconcile.specs.Shows.{shown_at}
use Rattle.update_chain.specs.declared.update.Update.{Update}
use Rattle.update_chain.specs.EventLaws.{StandsFor}
use Rattle.update_chain.specs.Updates.{update_in}
use Rattle.tree_dir.specs.declared.leaf.Leaf.{Leaf}
use Rattle.tree_dir.specs.Leaves.{leaf_under}
use Rattle.tree_dir.proofs.Parting.{under-has}
use Rattle.call_steps.specs.declared.frame.Frame.{Frame}
use Rattle.engine.proofs.LeavesCome.{named-there}
use Rattle.engine.specs.Evictions.{MayBeEvicted}
use Rattle.engine_world.proofs.Emptying.{IsFrameOf, frame-of}
use Rattle.engine_world.specs.Evicting.{IsEvictedTo, held_of}
use Rattle.engine_world.specs.Stands.{Engine, Stands}
use Rattle.engine_world.specs.Worlds.{World}
use Rattle.ckpt_step.specs.Floors.{AreNewestIn}
use Rattle.ckpt_step.specs.WritesOut.{AreRowsIn}
use Rattle.ckpt_step.proofs.LoadedLeaves.{one_leaf, shown_there}
use Rattle.ckpt_step.proofs.Members.{all_made, none_some, some_same}
use Rattle.ckpt_step.proofs.RowNewest.{row_newest}

-- ---- of the leaf

-- what its frame holds of a key, as the model says it
versions_same : (chain : List Update) → map {A = Update} (λ u. u.version) chain ≡ map {A = ModelUpdate} (λ u. u.version) (map update_in chain)
versions_same [] = refl
versions_same (u ∷ older) = ap (λ (vs : List (Version Change)). u.version ∷ vs) (versions_same older)

held_same : (f : Frame) (key : List ℕ) → held_of f key ≡ held_in (map update_in (chain_at key f.leaf.chains)) (shown_at key f.leaf.page)
held_same f key = ap (λ (vs : List (Version Change)). vs ++ option_to_list (shown_at key f.leaf.page)) (versions_same (chain_at key f.leaf.chains))

module _ (e : Engine) (w : World) (stands : Stands e w) (id : ℕ) (may : MayBeEvicted e id) (rows : List Row) (fit : AreFit rows) (moved : List ℕ → List (Version Change)) (is : IsEvictedTo w.machine e.hub.dir.leaves may.leaf may.frame rows moved) where
  abbrev leaves : List Leaf
  leaves = e.hub.dir.leaves

  there : Contains leaves may.leaf
  there = named-there id leaves may.leaf may.there

  frame : IsFrameOf w leaves may.leaf may.frame
  frame = frame-of e w may.leaf may.framed stands there may.placed may.frame may.filled

  rows_stand : (key : List ℕ) → leaf_under may.leaf.table key leaves ≡ Some may.leaf → StandsFor w.machine may.leaf.table key [] (shown_at key rows) (moved key ++ [])
  rows_stand key under =
      eviction-stands w.machine may.leaf.table key is.past (map update_in (chain_at key may.frame.leaf.chains)) (shown_at key may.frame.leaf.page) (shown_at key rows) [] (moved key)
      (is.covers key under)
      (subst (λ (held : List (Version Change)). EndedWhere w.machine each_one held) (held_same may.frame key) (is.ended key under))
      (subst (λ (held : List (Version Change)). ReconciledLists Older each_one is.past held (shown_at key rows) (moved key)) (held_same may.frame key) (is.made key under))
      (frame.keys key under)

  newest : AreNewestIn w.machine leaves may.leaf.table may.leaf rows
  newest key under =
      row_newest w.machine may.leaf.table key (shown_at key rows) (moved key ++ []) stands.valid (rows_stand key under)
      (subst (λ (l : List (Version Change)). Descends Older (option_to_list (shown_at key rows) ++ l)) (sym (append-nil (moved key))) (is.ordered key under))

  lies : (r : Row) → Member r rows → leaf_under may.leaf.table r.0 leaves ≡ Some may.leaf
  lies r row = by (leaf_under may.leaf.table r.0 leaves) refl
    where
      by : (o : Option Leaf) → leaf_under may.leaf.table r.0 leaves ≡ o → leaf_under may.leaf.table r.0 leaves ≡ Some may.leaf
      by None none = absurd (shown_there rows r row (is.bare r.0 (λ same. none_some (sym none ∙ same))).0)
      by (Some x) some = elim (cases_eq x.id may.leaf.id) [
        | inl same ↦ some ∙ ap (λ (y : Leaf). Some y) (one_leaf e w x may.leaf stands (under-has e.hub.dir stands.dir may.leaf.table r.0 x some).there there same)
        | inr differ ↦ absurd (shown_there rows r row (is.bare r.0 (λ same. differ (ap (λ (y : Leaf). y.id) (some_same (sym some ∙ same))))).0)
      ]

  pub evicted_rows : AreRowsIn w.machine leaves may.leaf rows
  evicted_rows = record {
    fit = fit;
    lie = all_made (λ (r : Row). leaf_under may.leaf.table r.0 leaves ≡ Some may.leaf) rows lies;
    newest = newest;
  }
