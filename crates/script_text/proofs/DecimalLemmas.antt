-- Numbers read from their digits are those that are written so.
use Rattle.std.proofs.Common.{◌≡◌, ◌∙◌, ◌+◌, ◌-◌, ◌*◌, ◌^◌, ◌<◌, ◌≤◌, ℕ, List, [], ◌∷◌, length, get_or, refl, ◌≢◌, sym, ap, subst, inl, inr, arith, rules}
use Rattle.std.specs.Prelude.{Option, Some, None, option_and_then, Bool, true, ◌&&◌, ◌==◌, nat_le}
use Rattle.std.specs.Fmt.{decimal}
use Rattle.std.proofs.lemmas.Bool.{cases_Bool, ne_eqb, eqb-false, leb-true, le-leb, and_parts}
use Rattle.std.proofs.lemmas.Option.{none-some, same_Some}
use Rattle.std.proofs.lemmas.Str.Parse.{IsNumeralModel, numerals_by_fold}
use Rattle.std.proofs.lemmas.Fmt.{digits_decimal, digits_value-decimal, decimal-digits_value, first_decimal, decimal_nonempty}
use Rattle.script_text.specs.Numbers.{is_digit, number_from, number_of, from_least}

abbrev pub all_digits : List ℕ → Bool
all_digits [] = true
all_digits (b ∷ digits) = is_digit b && all_digits digits

abbrev pub value_from : ℕ → List ℕ → ℕ
value_from n [] = n
value_from n (b ∷ digits) = value_from (10 * n + (b - 48)) digits

own : IsNumeralModel (λ digits. all_digits digits ≡ true) (value_from 0)
own = numerals_by_fold _ (search rules) value_from (search rules)

-- what is read is the value of digits
pub from-digits : (most n v : ℕ) (digits : List ℕ) → n ≤ most → number_from most n digits ≡ Some v → (all_digits digits ≡ true) × (value_from n digits ≡ v) × (v ≤ most)
from-digits most n v [] within e = let same = same_Some n v e in (refl, same, subst (λ x. x ≤ most) same within)
from-digits most n v (b ∷ digits) within e = elim (cases_Bool (is_digit b)) [
  | inr bad ↦ absurd (none-some v (rw bad at e))
  | inl good ↦ elim (cases_Bool (nat_le (10 * n + (b - 48)) most)) [
    | inr bad ↦ absurd (none-some v (rw (good, bad) at e))
    | inl small ↦
        let rest = from-digits most (10 * n + (b - 48)) v digits (leb-true (10 * n + (b - 48)) most small) (rw (good, small) at e) in
        (rw (good, rest.0) refl, rest.1, rest.2)
  ]
]

grows : (n : ℕ) (digits : List ℕ) → n ≤ value_from n digits
grows n [] = omega arith
grows n (b ∷ digits) = let more = grows (10 * n + (b - 48)) digits in omega (arith, more)

-- digits whose value is small enough are read
pub digits-read : (most n : ℕ) (digits : List ℕ) → all_digits digits ≡ true → value_from n digits ≤ most → number_from most n digits ≡ Some (value_from n digits)
digits-read most n [] all small = refl
digits-read most n (b ∷ digits) all small =
    let parts = and_parts (is_digit b) (all_digits digits) all in
    let here : 10 * n + (b - 48) ≤ most = let more = grows (10 * n + (b - 48)) digits in omega (arith, more, small) in
    rw (parts.0, le-leb (10 * n + (b - 48)) most here) (digits-read most (10 * n + (b - 48)) digits parts.1 small)

-- a number that is read is at its place in the range, and its digits are those that are written
pub number-is : (least most n : ℕ) (digits : List ℕ) → most < 2000 → number_of least most digits ≡ Some n → (least ≤ n) × (n ≤ most) × (digits ≡ decimal n)
number-is least most n [] few e = absurd (none-some n e)
number-is least most n (b ∷ digits) few e = elim (cases_Bool (b == 48)) [
  | inl zero-first ↦ absurd (none-some n (rw zero-first at e))
  | inr other ↦ go (eqb-false b 48 other) (number_from most 0 (b ∷ digits)) refl (rw other at e)
] where
  go : (b ≡ 48 → ⊥) → (o : Option ℕ) → number_from most 0 (b ∷ digits) ≡ o → option_and_then (from_least least) o ≡ Some n → (least ≤ n) × (n ≤ most) × (b ∷ digits ≡ decimal n)
  go apart None is e = absurd (none-some n e)
  go apart (Some v) is e = elim (cases_Bool (nat_le least v)) [
    | inr bad ↦ absurd (none-some n (rw bad at e))
    | inl high ↦
        let same : v ≡ n = same_Some v n (rw high at e) in
        let parts = from-digits most 0 v (b ∷ digits) (omega arith) is in
        let small : value_from 0 (b ∷ digits) < 2 ^ 64 = subst (λ x. x < 2 ^ 64) (sym parts.1) (omega (arith, parts.2, few)) in
        (subst (λ x. least ≤ x) same (leb-true least v high), subst (λ x. x ≤ most) same parts.2, sym (decimal-digits_value own (b ∷ digits) parts.0 (omega arith) (λ is48. absurd (apart is48)) small) ∙ ap decimal (parts.1 ∙ same))
  ]

-- a number of the range is read from its digits
pub number-reads : (least most n : ℕ) → 0 < n → n < 2 ^ 64 → least ≤ n → n ≤ most → number_of least most (decimal n) ≡ Some n
number-reads least most n positive fits low high = go (decimal n) (digits_decimal own n fits) (digits_value-decimal own n fits) (first_decimal n positive fits) where
  apart : (b : ℕ) → 48 < b → b ≢ 48
  apart b more e = omega arith

  go : (digits : List ℕ) → all_digits digits ≡ true → value_from 0 digits ≡ n → 48 < get_or digits 0 0 → number_of least most digits ≡ Some n
  go [] all value first = absurd (nothing first) where
    nothing : 48 < 0 → ⊥
    nothing h = omega arith
  go (b ∷ digits) all value first =
      rw (ne_eqb b 48 (apart b first)) (ap (option_and_then (from_least least)) (digits-read most 0 (b ∷ digits) all (subst (λ x. x ≤ most) (sym value) high) ∙ ap Some value) ∙ rw (le-leb least n low) refl)

pub digits-of : (n : ℕ) → n < 2 ^ 64 → all_digits (decimal n) ≡ true
digits-of n fits = digits_decimal own n fits

pub a-digit : (n : ℕ) → n < 2 ^ 64 → 0 < length (decimal n)
a-digit n fits = decimal_nonempty n fits
