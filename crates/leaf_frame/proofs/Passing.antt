-- A way from key to key, past those that give nothing.
use Rattle.std.proofs.Common.{◌≡◌, ◌∙◌, ℕ, Bool, true, false, List, [], ◌∷◌, Option, Some, None, refl, sym, ap, subst, inl, inr}
use Rattle.std.specs.Prelude.{◌↔◌, IsTrue, is_some, option_map}
use Rattle.std.specs.Option.{option_to_list}
use Rattle.std.proofs.lemmas.Bool.{both_ways, cases_Bool}
use Rattle.item.specs.declared.Change.{Change}
use Rattle.stamp.specs.declared.Version.{Version}
use Rattle.stamp.specs.declared.View.{View}
use Rattle.kv_model.specs.Rows.{Way, is_past, comes_after}
use Rattle.row_page.specs.declared.cell.Cell.{Cell}
use Rattle.reconcile.specs.Shows.{shown_at}
use Rattle.update_chain.specs.declared.update.Update.{Update}
use Rattle.leaf_frame.specs.declared.near.Near.{Near}
use Rattle.leaf_frame.specs.Leaf.{HeldLeaf}
use Rattle.leaf_frame.specs.Looks.{version_seen}
use Rattle.leaf_frame.specs.Near.{IsBare, IsNear, chain_in}
use Rattle.leaf_frame.specs.Next.{IsPassed, PassedBy, held_of}
use Rattle.leaf_frame.proofs.Keys.{further, sides}

-- where the way has come: the keys past where it began and not past here are passed
pub record Stands (way : Way) (from : Option (List ℕ)) (view : View) (leaf : HeldLeaf) (here : Option (List ℕ)) : Type 0 where
  pub onward : (k : List ℕ) → is_past way here k ≡ true → is_past way from k ≡ true
  pub passed : (k : List ℕ) → is_past way from k ≡ true → is_past way here k ≡ false → IsPassed view k leaf

bare_passed : (view : View) (k : List ℕ) (leaf : HeldLeaf) → IsBare k leaf → IsPassed view k leaf
bare_passed view k leaf bare = inl (ap (λ (c : List Update). held_of c (shown_at k leaf.page)) bare.0 ∙ ap (λ (o : Option (Version Change)). option_to_list o) bare.1)

-- what lies before the nearest key is passed
before_near : (way : Way) (from here : Option (List ℕ)) (view : View) (leaf : HeldLeaf) (n : Near) → Stands way from view leaf here → IsNear way here leaf n → (k : List ℕ) → is_past way from k ≡ true → comes_after way k n.key.now ≡ true → IsPassed view k leaf
before_near way from here view leaf n stands near k past before = elim (cases_Bool (is_past way here k)) [
  | inl on ↦ bare_passed view k leaf (near.before k on before)
  | inr isnt ↦ stands.passed k past isnt
]

-- of the nearest key, by its chain and its row
near_passed : (way : Way) (here : Option (List ℕ)) (view : View) (leaf : HeldLeaf) (n : Near) → IsNear way here leaf n → PassedBy view (chain_in n.there) (option_map version_seen n.cell) → IsPassed view n.key.now leaf
near_passed way here view leaf n near passed =
    subst (λ (c : List Update). PassedBy view c (shown_at n.key.now leaf.page)) (sym near.chain)
    (subst (λ (o : Option (Version Change)). PassedBy view (chain_in n.there) o) (sym near.row) passed)

pub goes_on : (way : Way) (from here : Option (List ℕ)) (view : View) (leaf : HeldLeaf) (n : Near) → Stands way from view leaf here → IsNear way here leaf n → PassedBy view (chain_in n.there) (option_map version_seen n.cell)
    → Stands way from view leaf (Some n.key.now)
goes_on way from here view leaf n stands near passed = record {
  onward = λ k past. stands.onward k (further way here n.key.now k near.past past);
  passed = λ k past isnt. elim (sides way k n.key.now) [
    | inl before ↦ before_near way from here view leaf n stands near k past before
    | inr (inl same) ↦ subst (λ (x : List ℕ). IsPassed view x leaf) (sym same) (near_passed way here view leaf n near passed)
    | inr (inr after) ↦ absurd (both_ways (comes_after way n.key.now k) isnt after)
  ];
}

-- ---- a key of which nothing is held

nothing_chained : (chain : List Update) → held_of chain None ≡ [] → chain ≡ []
nothing_chained [] is = refl
nothing_chained (u ∷ older) is = absurd cc

pub bare_is : (chain : List Update) (cell : Option Cell) (b : Bool) → is_some cell ≡ false → (IsTrue b ↔ (chain ≡ [])) → (IsTrue b ↔ (held_of chain (option_map version_seen cell) ≡ []))
bare_is chain None b none is = (λ t. ap (λ (c : List Update). held_of c None) (is.0 t), λ e. is.1 (nothing_chained chain e))
bare_is chain (Some c) b none is = absurd cc
