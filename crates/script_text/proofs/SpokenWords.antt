-- Words of calls: what is read of each is what it is spelled as.
use Rattle.std.proofs.Common.{◌≡◌, ◌∙◌, ◌+◌, ◌-◌, ◌<◌, ◌⊎◌, ℕ, List, [], ◌∷◌, ◌++◌, refl, sym, ap, subst, inl, inr, arith}
use Rattle.std.specs.Prelude.{Option, Some, None, option_map, option_and_then, Bool, true, ◌&&◌, ◌==◌, nat_le, if◌then◌else◌}
use Rattle.std.specs.Str.{bytes_eq}
use Rattle.std.specs.Fmt.{decimal}
use Rattle.std.proofs.lemmas.Bool.{cases_Bool, eqb-true, leb-true, le-leb, and_parts}
use Rattle.std.proofs.lemmas.Option.{none-some, same_Some}
use Rattle.std.proofs.lemmas.Slice.Eq.{bytes_eq-Decides}
use Rattle.std.proofs.lemmas.Fmt.{decimal_digit}
use Rattle.item.specs.declared.formats.Format.{Format}
use Rattle.item.specs.declared.formats.Format.TheVariants.{S, U}
use Rattle.script_text.specs.Words.{after_of}
use Rattle.script_text.specs.Numbers.{stamp_of, given_of, stamps_of, first_given}
use Rattle.script_text.specs.Items.{format_of, cursor_of}
use Rattle.script_text.specs.Grammar.{IsNamed, Names, IsCursor, IsFormat}
use Rattle.script_text.specs.declared.numbers.Stamps.{Stamps}
use Rattle.script_text.proofs.StampLemmas.{stamp-is, stamp-back}
use Rattle.script_text.proofs.WordLemmas.{after-is, after-append}

pub is-text : (word text : List ℕ) → bytes_eq word text ≡ true → word ≡ text
is-text word text e = (bytes_eq-Decides word text).0 e

-- which branch of a test gave the answer
pub chosen : {A : Type 0} (b : Bool) (x v : A) (rest : Option A) → (if b then Some x else rest) ≡ Some v → ((b ≡ true) × (x ≡ v)) ⊎ (rest ≡ Some v)
chosen b x v rest e = elim (cases_Bool b) [ inl here ↦ inl (here, same_Some x v (rw here at e)) | inr other ↦ inr (rw other at e) ]

-- ---- stamps

pub named : (name word : List ℕ) (stamp : ℕ) → given_of name word ≡ Some stamp → IsNamed name stamp word
named name word stamp e = go (after_of name word) refl e where
  go : (o : Option (List ℕ)) → after_of name word ≡ o → option_and_then stamp_of o ≡ Some stamp → IsNamed name stamp word
  go None is e = absurd (none-some stamp e)
  go (Some digits) is e = (digits, stamp-is stamp digits e, after-is name word digits is)

pub named-back : (name word : List ℕ) (stamp : ℕ) → IsNamed name stamp word → given_of name word ≡ Some stamp
named-back name word stamp is = ap (given_of name) is.2 ∙ (ap (option_and_then stamp_of) (after-append name is.0) ∙ stamp-back stamp is.0 is.1)

abbrev pub AreStamps : List ℕ → List ℕ → Option ℕ → Option ℕ → List (List ℕ) → Type 0
AreStamps a b x y words = (first second : List (List ℕ)) × Names a x first × Names b y second × (words ≡ first ++ second)

abbrev pub AreTheStamps : List ℕ → List ℕ → List (List ℕ) → Stamps → Type 0
AreTheStamps a b words stamps = AreStamps a b stamps.first stamps.second words

pub stamps-are : (a b : List ℕ) (words : List (List ℕ)) (stamps : Stamps) → stamps_of a b words ≡ Some stamps → AreTheStamps a b words stamps
stamps-are a b [] stamps e = subst (AreTheStamps a b []) (same_Some _ stamps e) ([], [], refl, refl, refl)
stamps-are a b (w ∷ []) stamps e = go (given_of a w) (given_of b w) refl refl e where
  go : (o p : Option ℕ) → given_of a w ≡ o → given_of b w ≡ p → first_given o p ≡ Some stamps → AreTheStamps a b (w ∷ []) stamps
  go (Some x) p is other e = subst (AreTheStamps a b (w ∷ [])) (same_Some _ stamps e) (w ∷ [], [], (w, named a w x is, refl), refl, refl)
  go None None is other e = absurd (none-some stamps e)
  go None (Some y) is other e = subst (AreTheStamps a b (w ∷ [])) (same_Some _ stamps e) ([], w ∷ [], refl, (w, named b w y other, refl), refl)
stamps-are a b (w ∷ (v ∷ [])) stamps e = go (given_of a w) (given_of b v) refl refl e where
  go : (o p : Option ℕ) → given_of a w ≡ o → given_of b v ≡ p
      → option_and_then (λ x. option_map (λ y. record { first = Some x; second = Some y }) p) o ≡ Some stamps → AreTheStamps a b (w ∷ v ∷ []) stamps
  go None p is other e = absurd (none-some stamps e)
  go (Some x) None is other e = absurd (none-some stamps e)
  go (Some x) (Some y) is other e =
      subst (AreTheStamps a b (w ∷ v ∷ [])) (same_Some _ stamps e) (w ∷ [], v ∷ [], (w, named a w x is, refl), (v, named b v y other, refl), refl)
stamps-are a b (w ∷ (v ∷ (u ∷ words))) stamps e = absurd (none-some stamps e)

pub stamps-back : (a b : List ℕ) → ((digits : List ℕ) → after_of a (b ++ digits) ≡ None) → (x y : Option ℕ) (words : List (List ℕ)) → AreStamps a b x y words
    → stamps_of a b words ≡ Some (record { first = x; second = y })
stamps-back a b apart None None words is = ap (stamps_of a b) (is.4 ∙ (λ i. is.2 i ++ is.3 i))
stamps-back a b apart (Some x) None words is =
    let one : words ≡ is.2.0 ∷ [] = is.4 ∙ (λ i. is.2.2 i ++ is.3 i) in
    ap (stamps_of a b) one ∙ ap (λ (o : Option ℕ). first_given o (given_of b is.2.0)) (named-back a is.2.0 x is.2.1)
stamps-back a b apart None (Some y) words is =
    let one : words ≡ is.3.0 ∷ [] = is.4 ∙ (λ i. is.2 i ++ is.3.2 i) in
    let word : List ℕ = is.3.0 in
    let no : given_of a word ≡ None = ap (given_of a) is.3.1.2 ∙ ap (option_and_then stamp_of) (apart is.3.1.0) in
    ap (stamps_of a b) one ∙ (λ i. first_given (no i) (named-back b word y is.3.1 i))
stamps-back a b apart (Some x) (Some y) words is =
    let two : words ≡ is.2.0 ∷ is.3.0 ∷ [] = is.4 ∙ (λ i. is.2.2 i ++ is.3.2 i) in
    ap (stamps_of a b) two
    ∙ (λ i. option_and_then (λ x. option_map (λ y. record { first = Some x; second = Some y }) (named-back b is.3.0 y is.3.1 i)) (named-back a is.2.0 x is.2.1 i))

-- ---- cursors and formats

pub cursor-is : (word : List ℕ) (n : ℕ) → cursor_of word ≡ Some n → IsCursor n word
cursor-is [] n e = absurd (none-some n e)
cursor-is (c ∷ []) n e = absurd (none-some n e)
cursor-is (c ∷ (d ∷ [])) n e = elim (chosen (c == 99 && (nat_le 48 d && nat_le d 51)) (d - 48) n None e) [
  | inr none ↦ absurd (none-some n none)
  | inl here ↦
      let parts = and_parts (c == 99) (nat_le 48 d && nat_le d 51) here.0 in
      let range = and_parts (nat_le 48 d) (nat_le d 51) parts.1 in
      let low = leb-true 48 d range.0 in
      let high = leb-true d 51 range.1 in
      let c-is : c ≡ 99 = eqb-true c 99 parts.0 in
      let small : d - 48 < 4 = omega arith in
      let d-is : d ≡ 48 + (d - 48) = omega arith in
      (subst (λ x. x < 4) here.1 small, (λ i. c-is i ∷ d-is i ∷ []) ∙ (ap (λ (l : List ℕ). 99 ∷ l) (sym (decimal_digit (d - 48) (omega arith))) ∙ ap (λ x. 99 ∷ decimal x) here.1))
]
cursor-is (c ∷ (d ∷ (e ∷ rest))) n h = absurd (none-some n h)

pub cursor-back : (word : List ℕ) (n : ℕ) → IsCursor n word → cursor_of word ≡ Some n
cursor-back word n is =
    let digit : decimal n ≡ (48 + n) ∷ [] = decimal_digit n (omega (arith, is.0)) in
    let same : 48 + n - 48 ≡ n = omega arith in
    ap cursor_of (is.1 ∙ ap (λ (l : List ℕ). 99 ∷ l) digit) ∙ rw (le-leb 48 (48 + n) (omega arith), le-leb (48 + n) 51 (omega (arith, is.0))) (ap Some same)

pub format-is : (word : List ℕ) (format : Format) → format_of word ≡ Some format → IsFormat format word
format-is word format e = elim (chosen (bytes_eq word (83 ∷ [])) S format _ e) [
  | inl here ↦ subst (λ f. IsFormat f word) here.1 (is-text word (83 ∷ []) here.0)
  | inr other ↦ elim (chosen (bytes_eq word (117 ∷ [])) U format None other) [
    | inl here ↦ subst (λ f. IsFormat f word) here.1 (is-text word (117 ∷ []) here.0)
    | inr none ↦ absurd (none-some format none)
  ]
]

pub format-back : (word : List ℕ) (format : Format) → IsFormat format word → format_of word ≡ Some format
format-back word S is = ap format_of is
format-back word U is = ap format_of is
