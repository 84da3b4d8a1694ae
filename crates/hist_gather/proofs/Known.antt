-- Tables by their numbers.
use Rattle.std.specs.Prelude.{◌≡◌, ◌==◌, Bool, true, List, [], ◌∷◌, refl}
use Rattle.std.specs.List.{list_any}
use Rattle.std.proofs.Common.{inl, inr, subst}
use Rattle.std.proofs.lemmas.Bool.{cases_Bool, eq-eqb}
use Rattle.kv_model.specs.Holds.{Member}
use Rattle.kv_model.specs.History.{Table, has_table}

any_of : (p : Table → Bool) (known : List Table) (t : Table) → Member t known → p t ≡ true → list_any p known ≡ true
any_of p [] t there is = absurd there
any_of p (u ∷ known) t (inl same) is = let own : p u ≡ true = subst (λ (x : Table). p x ≡ true) same is in rw own refl
any_of p (u ∷ known) t (inr there) is = elim (cases_Bool (p u)) [
  | inl own ↦ rw own refl
  | inr other ↦ rw other (any_of p known t there is)
]

-- one that is there has its number
pub has_member : (known : List Table) (t : Table) → Member t known → has_table known t.number ≡ true
has_member known t there = any_of (λ (u : Table). u.number == t.number) known t there (eq-eqb t.number t.number refl)
