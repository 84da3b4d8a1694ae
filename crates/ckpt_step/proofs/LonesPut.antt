-- What a map has of the leaves that were written since, once an entry comes, goes, or changes.
use Rattle.std.specs.Prelude.{◌≡◌, ℕ, ◌<◌, ◌==◌, nat_lt, true, false, List, [], ◌∷◌, Some, None, refl}
use Rattle.std.specs.Map.{remove_entry, set_value}
use Rattle.std.specs.BTreeMap.{insert_entry, is_at}
use Rattle.std.specs.Cmp.{nat_cmp_is}
use Rattle.std.specs.Ordering.{nat_cmp, is_eq}
use Rattle.std.specs.declared.cmp.Ordering.TheVariants.{Less, Equal, Greater}
use Rattle.std.proofs.Common.{inl, inr, sym, ◌∙◌, ap, arith}
use Rattle.std.proofs.lemmas.Bool.{cases_Bool, cases_eq, cases_lt, eq-eqb, le-ltb, lt-ltb, ne_eqb}
use Rattle.evict_step.proofs.KeptLists.{same_test}
use Rattle.ckpt_step.specs.declared.lives.Held.{Held}
use Rattle.ckpt_step.specs.declared.lives.Lone.{Lone}
use Rattle.ckpt_step.specs.Holding.{gone_at, named_at, put_lone}
use Rattle.ckpt_step.specs.Lives.{lone_of, lones_in}
use Rattle.ckpt_step.proofs.LonesIn.{found}
use Rattle.ckpt_step.proofs.Members.{none_some, some_same}

-- one comes
pub lones_put : (es : List (ℕ × Held)) (k : ℕ) (h : Held) → lones_in (insert_entry nat_cmp es k h) ≡ put_lone (lone_of (k, h)) (lones_in es)
lones_put [] k h = refl
lones_put (e ∷ es) k h = elim (cases_eq k e.0) [
  | inl same ↦
      let cmp : nat_cmp k e.0 ≡ Equal = sym (nat_cmp_is k e.0 Equal same) in
      let is : (k == e.0) ≡ true = eq-eqb k e.0 same in
      rw (cmp, is) (ap (λ (n : ℕ). lone_of (n, h) ∷ lones_in es) (sym same))
  | inr differ ↦
      let isnt : (k == e.0) ≡ false = ne_eqb k e.0 differ in
      elim (cases_lt k e.0) [
        | inl less ↦
            let cmp : nat_cmp k e.0 ≡ Less = sym (nat_cmp_is k e.0 Less less) in
            let low : nat_lt k e.0 ≡ true = lt-ltb k e.0 less in
            rw (cmp, isnt, low) refl
        | inr most ↦
            let more : e.0 < k = omega (arith, most, differ) in
            let cmp : nat_cmp k e.0 ≡ Greater = sym (nat_cmp_is k e.0 Greater more) in
            let high : nat_lt k e.0 ≡ false = le-ltb k e.0 (omega (arith, more)) in
            rw (cmp, isnt, high) (ap (λ (l : List Lone). lone_of e ∷ l) (lones_put es k h))
      ]
]

-- one goes
pub lones_gone : (es : List (ℕ × Held)) (offset : ℕ) → lones_in (remove_entry (is_at (nat_cmp offset)) es) ≡ gone_at (lones_in es) offset
lones_gone [] offset = refl
lones_gone (e ∷ es) offset = elim (cases_Bool (e.0 == offset)) [
  | inl is ↦ (let at : is_eq (nat_cmp offset e.0) ≡ true = same_test offset e.0 ∙ is in rw (is, at) refl)
  | inr isnt ↦ (let at : is_eq (nat_cmp offset e.0) ≡ false = same_test offset e.0 ∙ isnt in rw (isnt, at) (ap (λ (l : List Lone). lone_of e ∷ l) (lones_gone es offset)))
]

-- one is of another leaf
abbrev pub renamed : ℕ → Held → Held
renamed leaf h = record { leaf = leaf; size = h.size; sum = h.sum }

pub lones_named : (es : List (ℕ × Held)) (offset leaf : ℕ) (h : Held) → found es offset ≡ Some h → lones_in (set_value (is_at (nat_cmp offset)) es (renamed leaf h)) ≡ named_at (lones_in es) offset leaf
lones_named [] offset leaf h is = absurd (none_some is)
lones_named (e ∷ es) offset leaf h there = elim (cases_Bool (e.0 == offset)) [
  | inl is ↦
      let at : is_eq (nat_cmp offset e.0) ≡ true = same_test offset e.0 ∙ is in
      let own : e.1 ≡ h = some_same (rw at at there) in
      rw (is, at) (ap (λ (x : Held). lone_of (e.0, renamed leaf x) ∷ lones_in es) (sym own))
  | inr isnt ↦
      let at : is_eq (nat_cmp offset e.0) ≡ false = same_test offset e.0 ∙ isnt in
      rw (isnt, at) (ap (λ (l : List Lone). lone_of e ∷ l) (lones_named es offset leaf h (rw at at there)))
]

pub lones_none : (es : List (ℕ × Held)) (offset leaf : ℕ) → found es offset ≡ None → named_at (lones_in es) offset leaf ≡ lones_in es
lones_none [] offset leaf none = refl
lones_none (e ∷ es) offset leaf none = elim (cases_Bool (e.0 == offset)) [
  | inl is ↦ (let at : is_eq (nat_cmp offset e.0) ≡ true = same_test offset e.0 ∙ is in let some : Some e.1 ≡ None = rw at at none in absurd (none_some (sym some)))
  | inr isnt ↦ (let at : is_eq (nat_cmp offset e.0) ≡ false = same_test offset e.0 ∙ isnt in rw isnt (ap (λ (l : List Lone). lone_of e ∷ l) (lones_none es offset leaf (rw at at none))))
]
