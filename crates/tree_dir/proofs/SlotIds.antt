-- Slots by the ids of their leaves.
use Rattle.std.proofs.Common.{◌≡◌, ℕ, ◌<◌, List, length, Option, Some, None, refl, sym, ap, subst, ◌∙◌}
use Rattle.tree_dir.specs.declared.leaf.Leaf.{Leaf}
use Rattle.tree_dir.specs.Slots.{home_of, if_there, leaf_at, leaf_by_id, slot_by_id}
use Rattle.tree_dir.proofs.ViewLemmas.{Missing, by-id-none, by-id-some}
use Rattle.std.proofs.lemmas.Option.{same_Some}

pub slot-none : (slots : List Leaf) (id : ℕ) → slot_by_id id slots ≡ None → Missing slots id
slot-none slots id e = go (leaf_by_id id slots) refl where
  go : (o : Option Leaf) → leaf_by_id id slots ≡ o → Missing slots id
  go None h = by-id-none slots id h
  go (Some l) h = let clash = sym (ap (if_there (home_of id)) h) ∙ e in absurd cc

pub record IsSlotOf (slots : List Leaf) (id i : ℕ) : Type 0 where
  pub home : i ≡ home_of id
  pub within : i < length slots
  pub named : (leaf_at slots i).id ≡ id

pub slot-some : (slots : List Leaf) (id i : ℕ) → slot_by_id id slots ≡ Some i → IsSlotOf slots id i
slot-some slots id i e = go (leaf_by_id id slots) refl where
  go : (o : Option Leaf) → leaf_by_id id slots ≡ o → IsSlotOf slots id i
  go None h = let clash = sym (ap (if_there (home_of id)) h) ∙ e in absurd cc
  go (Some l) h =
      let p = by-id-some slots id l h in
      let is = same_Some (home_of id) i (sym (ap (if_there (home_of id)) h) ∙ e) in
      record {
        home = sym is;
        within = subst (λ (k : ℕ). k < length slots) is p.0;
        named = subst (λ (k : ℕ). (leaf_at slots k).id ≡ id) is p.2;
      }
