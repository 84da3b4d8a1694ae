-- What is kept of each session, where one of them changes.
use Rattle.std.proofs.Common.{◌≡◌, ◌≢◌, ℕ, zero, suc, refl, ap, sym, ◌∙◌, List, [], ◌∷◌, inl, inr, subst, arith}
use Rattle.std.specs.Prelude.{Some, slice_get, slice_set}
use Rattle.std.proofs.lemmas.Bool.{cases_eq}
use Rattle.std.proofs.lemmas.List.{get_or-set_same, length-set}
use Rattle.std.proofs.lemmas.Option.{same_Some, slice_get_within, slice_get-get_or}
use Rattle.call_steps.specs.State.{State}

-- ---- lists by index

get-set-same : {A : Type 0} (xs : List A) (i : ℕ) (x y : A) → slice_get xs i ≡ Some x → slice_get (slice_set xs i y) i ≡ Some y
get-set-same xs i x y at = let inside = slice_get_within xs i x at in let long = length-set xs i y in
    slice_get-get_or (slice_set xs i y) i y (omega arith) ∙ ap Some (get_or-set_same xs i y y inside)

get-set-other : {A : Type 0} (xs : List A) (i j : ℕ) (y : A) → j ≢ i → slice_get (slice_set xs i y) j ≡ slice_get xs j
get-set-other [] i j y other = refl
get-set-other (x ∷ xs) zero zero y other = absurd (other refl)
get-set-other (x ∷ xs) zero (suc j) y other = refl
get-set-other (x ∷ xs) (suc i) zero y other = refl
get-set-other (x ∷ xs) (suc i) (suc j) y other = get-set-other xs i j y (λ e. other (ap suc e))

-- what is kept of each session, where one of them is as it is now
pub one-set : (P Q : ℕ → State → Type 0) (sessions : List State) (session : ℕ) (a b : State) → ((r : ℕ) (c : State) → slice_get sessions r ≡ Some c → P r c) → slice_get sessions session ≡ Some a
    → ((r : ℕ) (c : State) → r ≢ session → P r c → Q r c) → Q session b → (r : ℕ) (c : State) → slice_get (slice_set sessions session b) r ≡ Some c → Q r c
one-set P Q sessions session a b all at others mine r c there = elim (cases_eq r session) [
  | inl same ↦ let now : b ≡ c = same_Some b c (sym (get-set-same sessions session a b at) ∙ (ap (λ i. slice_get (slice_set sessions session b) i) (sym same) ∙ there)) in
      subst (λ i. Q i c) (sym same) (subst (Q session) now mine)
  | inr other ↦ others r c other (all r c (sym (get-set-other sessions session r b other) ∙ there))
]
