-- What is asked of the rows of an evicted leaf and of what moves to the history, on the cases that matter.
use Rattle.std.proofs.Common.{◌≡◌, ◌⊎◌, ℕ, refl, ap, ◌∙◌, false, List, ◌∷◌, ◌++◌, map, inl, inr, subst}
use Rattle.std.specs.Prelude.{Option, Some, find}
use Rattle.std.specs.Option.{option_to_list}
use Rattle.std.proofs.lemmas.Bool.{both_ways}
use Rattle.item.specs.declared.Change.{Change}
use Rattle.stamp.specs.declared.Version.{Version}
use Rattle.kv_model.specs.History.{line, released}
use Rattle.kv_model.specs.Holds.{Descends, Member}
use Rattle.kv_model.specs.Machine.{Machine, Transaction, name_of, transaction_of}
use Rattle.kv_model.specs.Ordered.{Older}
use Rattle.kv_model.specs.Reconciling.{each_one}
use Rattle.kv_model.proofs.Pins.{covers-parts}
use Rattle.row_page.specs.Rows.{Row}
use Rattle.reconcile.specs.Shows.{shown_at}
use Rattle.update_chain.specs.declared.update.Update.{Update}
use Rattle.leaf_chains.specs.Slots.{chain_at}
use Rattle.tree_dir.specs.declared.leaf.Leaf.{Leaf}
use Rattle.tree_dir.specs.Leaves.{leaf_under}
use Rattle.call_steps.specs.declared.frame.Frame.{Frame}
use Rattle.engine_world.specs.Evicting.{IsEvictedTo, held_of}

in-held : (u : Update) (chain : List Update) (rest : List (Version Change)) → Member u chain → Member u.version (map {A = Update} (λ x. x.version) chain ++ rest)
in-held u (o ∷ chain) rest (inl same) = inl (ap (λ (x : Update). x.version) same)
in-held u (o ∷ chain) rest (inr later) = inr (in-held u chain rest later)
in-held u _ rest none = absurd none

module _ (m : Machine) (leaves : List Leaf) (l : Leaf) (f : Frame) (rows : List Row) (moved : List ℕ → List (Version Change)) (x : IsEvictedTo m leaves l f rows moved) (key : List ℕ) (under : leaf_under l.table key leaves ≡ Some l) where
  -- the newest update of a key is its row, a removal too
  pub newest-is-row : (u : Update) (older : List Update) → chain_at key f.leaf.chains ≡ u ∷ older → shown_at key rows ≡ Some u.version
  newest-is-row u older is = (x.made key under).cell_is ∙ ap (λ (chain : List Update). find each_one (map {A = Update} (λ y. y.version) chain ++ option_to_list (shown_at key f.leaf.page))) is

  -- no update is of a transaction that has not ended
  pub none-unresolved : (u : Update) → Member u (chain_at key f.leaf.chains) → (s : ℕ) (t : Transaction) → transaction_of m s ≡ Some t → u.version.window.name ≡ name_of m t → ⊥
  none-unresolved u there s t is named = x.ended key under u.version (in-held u (chain_at key f.leaf.chains) (option_to_list (shown_at key f.leaf.page)) there) refl s t is named

  -- a version of which a snapshot sees no newer one is the row, or moves
  pub read-is-kept : (v : Version Change) → Member v (held_of f key) → ((w : Version Change) → Member w (held_of f key) → Member w (line m.history l.table key)) → (s : ℕ) (t : Transaction) → transaction_of m s ≡ Some t
      → ((w : Version Change) → Member w (held_of f key) → Older v w → released m.history t.start w.window.name ≡ false) → (shown_at key rows ≡ Some v) ⊎ Member v (moved key)
  read-is-kept v there stand s t is newer = elim ((x.made key under).all v there refl) [
    | inl row ↦ inl ((x.made key under).cell_is ∙ row)
    | inr out ↦ elim out [
      | inl there ↦ inr there
      | inr w ↦ absurd (both_ways (released m.history t.start w.0.window.name) (newer w.0 w.1 w.2) ((covers-parts m w.0 (x.covers key under w.0 (stand w.0 w.1) w.4)).seen s t is))
    ]
  ]

  -- what moves was held of this key
  pub moved-was-held : (v : Version Change) → Member v (moved key) → Member v (held_of f key)
  moved-was-held v there = ((x.made key under).from v there).0

  -- and is older than the row
  pub moved-is-older : (v row : Version Change) → Member v (moved key) → shown_at key rows ≡ Some row → Older v row
  moved-is-older v row there is = (subst (λ (o : Option (Version Change)). Descends Older (option_to_list o ++ moved key)) is (x.ordered key under)).0 v there
