-- Stamps read from their digits are those that the digits write.
use Rattle.std.proofs.Common.{◌≡◌, ◌∙◌, ◌+◌, ◌-◌, ◌*◌, ◌<◌, ℕ, List, [], ◌∷◌, length, refl, sym, ap, inl, inr, arith}
use Rattle.std.specs.Prelude.{Option, Some, None, option_and_then, Bool, true, ◌&&◌, nat_le}
use Rattle.std.specs.Char.{digit_value}
use Rattle.std.specs.Str.Parse.{digits_value_after}
use Rattle.std.proofs.lemmas.Bool.{cases_Bool, leb-true, le-leb, lt-ltb, le-ltb, and_parts, or_cases}
use Rattle.std.proofs.lemmas.Option.{none-some, same_Some}
use Rattle.script_text.specs.Numbers.{hex_value, stamp_from, stamp_of}
use Rattle.script_text.specs.Grammar.{is_hex, are_hex, IsStamp}

abbrev low : ℕ → Bool
low b = nat_le 48 b && nat_le b 57

abbrev high : ℕ → Bool
high b = nat_le 97 b && nat_le b 102

low-value : (b : ℕ) → low b ≡ true → digit_value b ≡ b - 48
low-value b e =
    let parts = and_parts (nat_le 48 b) (nat_le b 57) e in
    let least = leb-true 48 b parts.0 in
    let most = leb-true b 57 parts.1 in
    rw (le-ltb b 48 least, lt-ltb b 58 (omega arith)) refl

high-value : (b : ℕ) → high b ≡ true → digit_value b ≡ b - 87
high-value b e =
    let parts = and_parts (nat_le 97 b) (nat_le b 102) e in
    let least = leb-true 97 b parts.0 in
    let most = leb-true b 102 parts.1 in
    rw (le-ltb b 48 (omega arith), le-ltb b 58 (omega arith), le-ltb b 65 (omega arith), le-ltb b 91 (omega arith), le-ltb b 97 least, lt-ltb b 123 (omega arith)) refl

abbrev IsDigit : ℕ → ℕ → Type 0
IsDigit b d = (is_hex b ≡ true) × (digit_value b ≡ d)

hex-is : (b d : ℕ) → hex_value b ≡ Some d → IsDigit b d
hex-is b d e = elim (cases_Bool (low b)) [
  | inl here ↦ (rw here refl, low-value b here ∙ same_Some (b - 48) d (rw here at e))
  | inr above ↦ elim (cases_Bool (high b)) [
    | inl here ↦ (rw (above, here) refl, high-value b here ∙ same_Some (b - 87) d (rw (above, here) at e))
    | inr none ↦ absurd (none-some d (rw (above, none) at e))
  ]
]

hex-back : (b : ℕ) → is_hex b ≡ true → hex_value b ≡ Some (digit_value b)
hex-back b e = elim (cases_Bool (low b)) [
  | inl here ↦ rw here (ap Some (sym (low-value b here)))
  | inr above ↦ elim (or_cases (low b) (high b) e) [
    | inl here ↦ rw here (ap Some (sym (low-value b here)))
    | inr here ↦ rw (above, here) (ap Some (sym (high-value b here)))
  ]
]

turned : (n d : ℕ) → 16 * n + d ≡ n * 16 + d
turned n d = omega arith

from-is : (n v : ℕ) (digits : List ℕ) → stamp_from n digits ≡ Some v → (are_hex digits ≡ true) × (digits_value_after 16 n digits ≡ v)
from-is n v [] e = (refl, same_Some n v e)
from-is n v (b ∷ digits) e = go (λ d. from-is (16 * n + d) v digits) (hex_value b) refl e where
  go : ((d : ℕ) → stamp_from (16 * n + d) digits ≡ Some v → (are_hex digits ≡ true) × (digits_value_after 16 (16 * n + d) digits ≡ v)) → (o : Option ℕ) → hex_value b ≡ o → option_and_then (λ d. stamp_from (16 * n + d) digits) o ≡ Some v → (are_hex (b ∷ digits) ≡ true) × (digits_value_after 16 n (b ∷ digits) ≡ v)
  go others None is e = absurd (none-some v e)
  go others (Some d) is e =
      let here = hex-is b d is in
      let rest = others d e in
      let next : n * 16 + digit_value b ≡ 16 * n + d = ap (λ x. n * 16 + x) here.1 ∙ sym (turned n d) in
      (rw (here.0, rest.0) refl, ap (λ x. digits_value_after 16 x digits) next ∙ rest.1)

from-back : (n : ℕ) (digits : List ℕ) → are_hex digits ≡ true → stamp_from n digits ≡ Some (digits_value_after 16 n digits)
from-back n [] all = refl
from-back n (b ∷ digits) all =
    let parts = and_parts (is_hex b) (are_hex digits) all in
    ap (option_and_then (λ d. stamp_from (16 * n + d) digits)) (hex-back b parts.0)
    ∙ from-back (16 * n + digit_value b) digits parts.1
    ∙ ap (λ x. Some (digits_value_after 16 x digits)) (turned n (digit_value b))

pub stamp-is : (stamp : ℕ) (digits : List ℕ) → stamp_of digits ≡ Some stamp → IsStamp stamp digits
stamp-is stamp [] e = absurd (none-some stamp e)
stamp-is stamp (b ∷ digits) e = elim (cases_Bool (nat_le (length (b ∷ digits)) 16)) [
  | inr long ↦ absurd (none-some stamp (rw long at e))
  | inl short ↦
      let parts = from-is 0 stamp (b ∷ digits) (rw short at e) in
      record { some = omega arith; short = leb-true (length (b ∷ digits)) 16 short; lower = parts.0; value = parts.1 }
]

pub stamp-back : (stamp : ℕ) (digits : List ℕ) → IsStamp stamp digits → stamp_of digits ≡ Some stamp
stamp-back stamp [] is = absurd (nothing is.some) where
  nothing : 0 < 0 → ⊥
  nothing h = omega arith
stamp-back stamp (b ∷ digits) is = rw (le-leb (length (b ∷ digits)) 16 is.short) (from-back 0 (b ∷ digits) is.lower ∙ ap Some is.value)
