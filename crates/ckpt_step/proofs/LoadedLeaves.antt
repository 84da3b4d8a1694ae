-- A leaf that is in a frame, as the engine's world has it, and what is captured of it.
use Rattle.std.specs.Prelude.{◌≡◌, ◌≢◌, ℕ, true, List, [], ◌∷◌, length, Option, Some, None, bytes_eq, refl}
use Rattle.std.specs.List.{Contains}
use Rattle.std.proofs.Common.{inl, inr, sym, ◌∙◌, ap, subst}
use Rattle.std.proofs.lemmas.Bool.{both_ways, cases_Bool, cases_eq}
use Rattle.item.specs.declared.Change.{Change}
use Rattle.stamp.specs.declared.Version.{Version}
use Rattle.kv_model.specs.Holds.{Member}
use Rattle.row_page.specs.Rows.{Row}
use Rattle.row_page.specs.Changes.{version_in}
use Rattle.reconcile.specs.Shows.{shown_at}
use Rattle.reconcile.proofs.Keyed.{key_self}
use Rattle.snapshot.specs.Matters.{NoneResolves, SeesCommitted}
use Rattle.snapshot.specs.Sight.{Sight}
use Rattle.update_chain.specs.declared.update.Update.{Update}
use Rattle.update_chain.specs.EventLaws.{StandsFor}
use Rattle.leaf_chains.specs.Slots.{chain_at}
use Rattle.leaf_frame.specs.Leaf.{HeldLeaf}
use Rattle.frame_capture.specs.Capture.{IsCaptured, captured_over}
use Rattle.frame_capture.specs.Laws.{CapturesAreNewest}
use Rattle.tree_dir.specs.declared.leaf.Framed.{Framed}
use Rattle.tree_dir.specs.declared.leaf.Leaf.{Leaf}
use Rattle.tree_dir.specs.Leaves.{leaf_named, leaf_under}
use Rattle.tree_dir.proofs.Parting.{ids-name, under-has}
use Rattle.call_steps.specs.declared.frame.Frame.{Frame}
use Rattle.engine_world.specs.Leaves.{frame_in}
use Rattle.engine_world.specs.Stands.{Engine, Stands}
use Rattle.engine_world.specs.Worlds.{World}
use Rattle.ckpt_step.specs.Floors.{AreNewestIn}
use Rattle.ckpt_step.specs.Parts.{LieIn}
use Rattle.ckpt_step.specs.Steps.{IsLoaded}
use Rattle.ckpt_step.proofs.Members.{all_made, none_some, some_same}

-- ---- what stands in it

-- the leaf's chains and rows stand for its keys, and it has none of others
pub record StandsIn (w : World) (leaves : List Leaf) (table : ℕ) (l : Leaf) (held : HeldLeaf) : Type 0 where
  pub keys : (key : List ℕ) → leaf_under table key leaves ≡ Some l → StandsFor w.machine table key (chain_at key held.chains) (shown_at key held.page) []
  pub bare : (key : List ℕ) → leaf_under table key leaves ≢ Some l → (chain_at key held.chains ≡ []) × (shown_at key held.page ≡ None)

pub stands_in : (e : Engine) (w : World) (table : ℕ) (l : Leaf) (held : HeldLeaf) → Stands e w → Contains e.hub.dir.leaves l → l.table ≡ table → IsLoaded e l held → StandsIn w e.hub.dir.leaves table l held
stands_in e w table l held stands there same loaded = elim (stands.leaves l there) [
  | inr device ↦ absurd (none_some (sym device.none ∙ loaded.placed))
  | inl frame ↦
      let framed : frame.laid.framed ≡ loaded.framed = some_same (sym frame.laid.placed ∙ loaded.placed) in
      let is : frame.laid.frame ≡ loaded.frame = some_same (sym frame.laid.there ∙ (ap (λ (f : Framed). frame_in e.pieces f.frame) framed ∙ loaded.there)) in
      let leaf : frame.laid.frame.leaf ≡ held = ap (λ (f : Frame). f.leaf) is ∙ sym loaded.is in
      subst (λ (h : HeldLeaf). StandsIn w e.hub.dir.leaves table l h) leaf (subst (λ (n : ℕ). StandsIn w e.hub.dir.leaves n l frame.laid.frame.leaf) same (record { keys = frame.keys; bare = frame.bare }))
]

-- ---- what is captured of it

-- a row's key is shown
pub shown_there : (rows : List Row) (r : Row) → Member r rows → shown_at r.0 rows ≡ None → ⊥
shown_there [] r there none = there
shown_there (x ∷ rows) r there none = elim (cases_Bool (bytes_eq x.0 r.0)) [
  | inl is ↦ absurd (none_some (sym (let some : Some (version_in x.1) ≡ None = rw is at none in some)))
  | inr isnt ↦ elim there [
    | inl same ↦ absurd (both_ways (bytes_eq x.0 r.0) isnt (subst (λ (y : Row). bytes_eq y.0 r.0 ≡ true) same (key_self r.0)))
    | inr later ↦ shown_there rows r later (rw isnt at none)
  ]
]

-- of one id there is one leaf
pub one_leaf : (e : Engine) (w : World) (x l : Leaf) → Stands e w → Contains e.hub.dir.leaves x → Contains e.hub.dir.leaves l → x.id ≡ l.id → x ≡ l
one_leaf e w x l stands one two same = some_same (sym (ids-name e.hub.dir stands.dir x one) ∙ (ap (λ (n : ℕ). leaf_named n e.hub.dir.leaves) same ∙ ids-name e.hub.dir stands.dir l two))

module _ (e : Engine) (w : World) (s : Sight) (table : ℕ) (l : Leaf) (held : HeldLeaf) (rows : List Row) (stands : Stands e w) (there : Contains e.hub.dir.leaves l) (stand : StandsIn w e.hub.dir.leaves table l held) (is : IsCaptured s held rows) where
  none_shown : (key : List ℕ) → leaf_under table key e.hub.dir.leaves ≢ Some l → shown_at key rows ≡ None
  none_shown key other =
      let bare = stand.bare key other in
      is.shows key ∙ (ap (λ (c : List Update). captured_over s c (shown_at key held.page)) bare.0 ∙ ap (λ (o : Option (Version Change)). captured_over s [] o) bare.1)

  lies_in : (r : Row) → Member r rows → leaf_under table r.0 e.hub.dir.leaves ≡ Some l
  lies_in r row = by (leaf_under table r.0 e.hub.dir.leaves) refl
    where
      by : (o : Option Leaf) → leaf_under table r.0 e.hub.dir.leaves ≡ o → leaf_under table r.0 e.hub.dir.leaves ≡ Some l
      by None none = absurd (shown_there rows r row (none_shown r.0 (λ same. none_some (sym none ∙ same))))
      by (Some x) some = elim (cases_eq x.id l.id) [
        | inl same ↦ some ∙ ap (λ (y : Leaf). Some y) (one_leaf e w x l stands (under-has e.hub.dir stands.dir table r.0 x some).there there same)
        | inr differ ↦ absurd (shown_there rows r row (none_shown r.0 (λ same. differ (ap (λ (y : Leaf). y.id) (some_same (sym some ∙ same))))))
      ]

  -- the rows' keys lie in the leaf
  pub captured_lie : LieIn e.hub.dir.leaves table l rows
  captured_lie = all_made (λ (r : Row). leaf_under table r.0 e.hub.dir.leaves ≡ Some l) rows lies_in

  -- and the rows are the newest of its keys
  pub captured_newest : CapturesAreNewest → NoneResolves w.machine → SeesCommitted w.machine (length w.machine.history) s → AreNewestIn w.machine e.hub.dir.leaves table l rows
  captured_newest law none sees key under =
      sym (law w.machine table key (chain_at key held.chains) (shown_at key held.page) s stands.valid (λ session u wrote resolves. absurd (none session u wrote.0 resolves)) sees (stand.keys key under)) ∙ sym (is.shows key)
