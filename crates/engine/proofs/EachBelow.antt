-- What holds of each item of a list, found one after the other.
use Rattle.std.proofs.Common.{◌≡◌, ◌+◌, ◌<◌, ℕ, sym, ◌∙◌, ap, List, length, inl, inr, subst, arith}
use Rattle.std.specs.Prelude.{Some, slice_get}
use Rattle.std.proofs.lemmas.Bool.{cases_eq}
use Rattle.std.proofs.lemmas.Option.{same_Some, slice_get_within}

-- of each before this place
abbrev pub EachBelow : {A : Type 0} → (A → Type 0) → List A → ℕ → Type 0
EachBelow {A} P items n = (k : ℕ) (a : A) → k < n → slice_get items k ≡ Some a → P a

module _ {A : Type 0} (P : A → Type 0) (items : List A) where
  pub each-more : (n : ℕ) (a : A) → EachBelow P items n → slice_get items n ≡ Some a → P a → EachBelow P items (n + 1)
  each-more n a below at holds k b less there = elim (cases_eq k n) [
    | inl here ↦ subst P (same_Some a b (sym at ∙ (ap (slice_get items) (sym here) ∙ there))) holds
    | inr other ↦ below k b (omega (arith, less, other)) there
  ]

  pub each-all : EachBelow P items (length items) → (k : ℕ) (a : A) → slice_get items k ≡ Some a → P a
  each-all below k a at = below k a (slice_get_within items k a at) at
