-- A leaf that comes with its page alone, where the history keeps nothing.
use Rattle.std.proofs.Common.{◌≡◌, ℕ, refl, ap, sym, ◌∙◌, List, [], ◌++◌, inl, inr, subst}
use Rattle.std.specs.Prelude.{◌==◌, if◌then◌else◌}
use Rattle.std.specs.Option.{option_to_list}
use Rattle.std.proofs.lemmas.Bool.{cases_Bool}
use Rattle.std.proofs.lemmas.List.{append-nil}
use Rattle.item.specs.declared.Change.{Change}
use Rattle.stamp.specs.declared.Version.{Version}
use Rattle.kv_model.specs.Holds.{Member}
use Rattle.row_page.specs.Rows.{Row}
use Rattle.reconcile.specs.Shows.{shown_at}
use Rattle.reconcile.specs.Capture.{ChainsFit}
use Rattle.leaf_chains.specs.declared.slot.KeyChain.{KeyChain}
use Rattle.leaf_chains.specs.Slots.{chain_at}
use Rattle.reconcile.specs.Held.{held_at}
use Rattle.leaf_frame.specs.Leaf.{HeldLeaf}
use Rattle.engine_world.specs.Coming.{ComesFrom}
use Rattle.engine_world.specs.Worlds.{World, without_records}

pub bare-fits : (leaf : HeldLeaf) → leaf.chains ≡ [] → ChainsFit leaf.chains
bare-fits leaf bare = subst ChainsFit (sym bare) (λ key. tt)

pub bare-comes : (leaf : HeldLeaf) (rows : List Row) (records : List ℕ → List (Version Change)) → leaf.chains ≡ [] → leaf.page ≡ rows → ((key : List ℕ) → records key ≡ []) → ComesFrom leaf rows records
bare-comes leaf rows records bare page none = record {
  held = λ key. held-one key ∙ (sym (append-nil (option_to_list (shown_at key rows))) ∙ ap (λ (vs : List (Version Change)). option_to_list (shown_at key rows) ++ vs) (sym (none key)));
  unmarked = λ key u there. absurd (subst (λ (slots : List KeyChain). Member u (chain_at key slots)) bare there);
  lies = λ some. page;
} where
  held-one : (key : List ℕ) → held_at key leaf.page leaf.chains ≡ option_to_list (shown_at key rows)
  held-one key = λ i. held_at key (page i) (bare i)

-- then the world is as it was
pub none-kept : (id : ℕ) (w : World) → ((other : ℕ) (key : List ℕ) → w.records other key ≡ []) → without_records id w ≡ w
none-kept id w none = λ i. record w { records = λ other key. same other key i } where
  same : (other : ℕ) (key : List ℕ) → (if other == id then [] else w.records other key) ≡ w.records other key
  same other key = elim (cases_Bool (other == id)) [
    | inl is ↦ rw is (sym (none other key))
    | inr isnt ↦ rw isnt refl
  ]
