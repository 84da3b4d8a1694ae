-- What a map has of the leaves that were written since, by its look-ups.
use Rattle.std.specs.Prelude.{◌≡◌, ℕ, ◌==◌, true, false, List, [], ◌∷◌, Option, is_some, refl}
use Rattle.std.specs.Map.{lookup}
use Rattle.std.specs.BTreeMap.{is_at}
use Rattle.std.specs.Ordering.{nat_cmp, is_eq}
use Rattle.std.proofs.Common.{inl, inr, ◌∙◌}
use Rattle.std.proofs.lemmas.Bool.{cases_Bool}
use Rattle.kv_model.specs.Machine.{of_some}
use Rattle.evict_step.proofs.KeptLists.{same_test}
use Rattle.ckpt_step.specs.declared.lives.Held.{Held}
use Rattle.ckpt_step.specs.declared.lives.Lone.{Lone}
use Rattle.ckpt_step.specs.Lives.{has_at, lone_at, lones_in}

abbrev pub found : List (ℕ × Held) → ℕ → Option Held
found es offset = lookup (is_at (nat_cmp offset)) es

-- one is there
pub has_found : (es : List (ℕ × Held)) (offset : ℕ) → has_at (lones_in es) offset ≡ is_some (found es offset)
has_found [] offset = refl
has_found (e ∷ es) offset = elim (cases_Bool (e.0 == offset)) [
  | inl is ↦ (let at : is_eq (nat_cmp offset e.0) ≡ true = same_test offset e.0 ∙ is in rw (is, at) refl)
  | inr isnt ↦ (let at : is_eq (nat_cmp offset e.0) ≡ false = same_test offset e.0 ∙ isnt in rw (isnt, at) (has_found es offset))
]

-- of this id
pub leaf_found : (es : List (ℕ × Held)) (offset id : ℕ) → of_some false (λ (x : Lone). x.leaf == id) (lone_at (lones_in es) offset) ≡ of_some false (λ (h : Held). h.leaf == id) (found es offset)
leaf_found [] offset id = refl
leaf_found (e ∷ es) offset id = elim (cases_Bool (e.0 == offset)) [
  | inl is ↦ (let at : is_eq (nat_cmp offset e.0) ≡ true = same_test offset e.0 ∙ is in rw (is, at) refl)
  | inr isnt ↦ (let at : is_eq (nat_cmp offset e.0) ≡ false = same_test offset e.0 ∙ isnt in rw (isnt, at) (leaf_found es offset id))
]
