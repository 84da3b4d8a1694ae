-- The first word of a line: what is read of it is what it is spelled as.
use Rattle.std.proofs.Common.{◌≡◌, ◌∙◌, ◌+◌, ◌-◌, ◌<◌, ◌≤◌, ◌≢◌, ℕ, zero, suc, List, [], ◌∷◌, ◌++◌, length, refl, sym, ap, subst, inl, inr, arith}
use Rattle.std.specs.Prelude.{Option, Some, None, option_map, option_and_then, Bool, true, false, ◌&&◌, not, nat_le, codes}
use Rattle.std.specs.Str.{bytes_eq}
use Rattle.std.specs.Fmt.{decimal}
use Rattle.std.proofs.lemmas.Bool.{cases_Bool, leb-true, and_parts, ne_eqb}
use Rattle.std.proofs.lemmas.Option.{none-some, same_Some}
use Rattle.script_text.specs.Words.{after_of}
use Rattle.script_text.specs.Numbers.{is_digit, number_of}
use Rattle.script_text.specs.Actors.{is_mark, before_mark, from_mark, mark_of, numbered, actor_of, first_of}
use Rattle.script_text.specs.Grammar.{IsActor}
use Rattle.script_text.specs.declared.actors.Mark.{Mark}
use Rattle.script_text.specs.declared.actors.Mark.TheVariants.{Whole, Started, One, Rest}
use Rattle.script_text.specs.declared.actors.First.{First}
use Rattle.script_text.specs.declared.line.Actor.{Actor}
use Rattle.script_text.specs.declared.line.Actor.TheVariants.{Session, System}
use Rattle.script_text.proofs.WordLemmas.{after-is}
use Rattle.script_text.proofs.DecimalLemmas.{all_digits, number-is, number-reads, digits-of, a-digit}
use Rattle.script_text.proofs.SpokenWords.{chosen, is-text}

-- ---- marks

abbrev pub mark_text : Mark → List ℕ
mark_text Whole = []
mark_text Started = codes "!"
mark_text One = codes "."
mark_text Rest = codes ".."

parted : (word : List ℕ) → word ≡ before_mark word ++ from_mark word
parted [] = refl
parted (b ∷ rest) = elim (cases_Bool (is_mark b)) [ inl here ↦ rw here refl | inr other ↦ rw other (ap (λ (t : List ℕ). b ∷ t) (parted rest)) ]

mark-is : (text : List ℕ) (mark : Mark) → mark_of text ≡ Some mark → text ≡ mark_text mark
mark-is [] mark e = ap mark_text (same_Some Whole mark e)
mark-is (b ∷ rest) mark e = elim (chosen (bytes_eq (b ∷ rest) (codes "!")) Started mark _ e) [
  | inl here ↦ is-text (b ∷ rest) (codes "!") here.0 ∙ ap mark_text here.1
  | inr e ↦ elim (chosen (bytes_eq (b ∷ rest) (codes ".")) One mark _ e) [
    | inl here ↦ is-text (b ∷ rest) (codes ".") here.0 ∙ ap mark_text here.1
    | inr e ↦ elim (chosen (bytes_eq (b ∷ rest) (codes "..")) Rest mark None e) [
      | inl here ↦ is-text (b ∷ rest) (codes "..") here.0 ∙ ap mark_text here.1
      | inr none ↦ absurd (none-some mark none)
    ]
  ]
]

abbrev unmarked : List ℕ → Bool
unmarked [] = true
unmarked (b ∷ rest) = not (is_mark b) && unmarked rest

no-mark : (b : ℕ) → not (is_mark b) ≡ true → is_mark b ≡ false
no-mark b e = elim (cases_Bool (is_mark b)) [ inl here ↦ let bad : false ≡ true = rw here at e in rw here (sym bad) | inr other ↦ other ]

before-mark : (name mark : List ℕ) → unmarked name ≡ true → before_mark mark ≡ [] → before_mark (name ++ mark) ≡ name
before-mark [] mark plain none = none
before-mark (b ∷ name) mark plain none =
    let parts = and_parts (not (is_mark b)) (unmarked name) plain in
    rw (no-mark b parts.0) (ap (λ (t : List ℕ). b ∷ t) (before-mark name mark parts.1 none))

from-mark : (name mark : List ℕ) → unmarked name ≡ true → from_mark (name ++ mark) ≡ from_mark mark
from-mark [] mark plain = refl
from-mark (b ∷ name) mark plain =
    let parts = and_parts (not (is_mark b)) (unmarked name) plain in
    rw (no-mark b parts.0) (from-mark name mark parts.1)

digits-unmarked : (digits : List ℕ) → all_digits digits ≡ true → unmarked digits ≡ true
digits-unmarked [] all = refl
digits-unmarked (b ∷ digits) all =
    let parts = and_parts (is_digit b) (all_digits digits) all in
    let range = and_parts (nat_le 48 b) (nat_le b 57) parts.0 in
    let low = leb-true 48 b range.0 in
    rw (ne_eqb b 33 (apart 33 low (omega arith)), ne_eqb b 46 (apart 46 low (omega arith)), digits-unmarked digits parts.1) refl
  where
    apart : (c : ℕ) → 48 ≤ b → c < 48 → b ≢ c
    apart c low small e = omega arith

-- ---- actors

session-is : (n : ℕ) (name : List ℕ) → 1 ≤ n → n ≤ 999 → name ≡ codes "s" ++ decimal n → IsActor (Session (n - 1)) name
session-is n name low high is =
    let same : n ≡ n - 1 + 1 = omega arith in
    (omega arith, is ∙ ap (λ x. codes "s" ++ decimal x) same)

system-is : (n : ℕ) (name : List ℕ) → 2 ≤ n → n ≤ 4 → name ≡ codes "sys" ++ decimal n → IsActor (System (n - 1)) name
system-is n name low high is =
    let k : ℕ = n - 2 in
    let before : suc k ≡ n - 1 = omega arith in
    let same : n ≡ k + 2 = omega arith in
    subst (λ x. IsActor (System x) name) before (omega arith, is ∙ ap (λ x. codes "sys" ++ decimal x) same)

pub actor-is : (name : List ℕ) (actor : Actor) → actor_of name ≡ Some actor → IsActor actor name
actor-is name actor e = elim (chosen (bytes_eq name (codes "sys")) (System 0) actor _ e) [
  | inl here ↦ subst (λ x. IsActor x name) here.1 (is-text name (codes "sys") here.0)
  | inr e ↦ go (after_of (codes "sys") name) (after_of (codes "s") name) refl refl e
] where
  system : (digits : List ℕ) → name ≡ codes "sys" ++ digits → (o : Option ℕ) → number_of 2 4 digits ≡ o → option_map (λ n. System (n - 1)) o ≡ Some actor → IsActor actor name
  system digits is None at e = absurd (none-some actor e)
  system digits is (Some n) at e =
      let parts = number-is 2 4 n digits (omega arith) at in
      subst (λ x. IsActor x name) (same_Some _ actor e) (system-is n name parts.0 parts.1 (is ∙ ap (λ (l : List ℕ). codes "sys" ++ l) parts.2))

  session : (digits : List ℕ) → name ≡ codes "s" ++ digits → (o : Option ℕ) → number_of 1 999 digits ≡ o → option_map (λ n. Session (n - 1)) o ≡ Some actor → IsActor actor name
  session digits is None at e = absurd (none-some actor e)
  session digits is (Some n) at e =
      let parts = number-is 1 999 n digits (omega arith) at in
      subst (λ x. IsActor x name) (same_Some _ actor e) (session-is n name parts.0 parts.1 (is ∙ ap (λ (l : List ℕ). codes "s" ++ l) parts.2))

  go : (o p : Option (List ℕ)) → after_of (codes "sys") name ≡ o → after_of (codes "s") name ≡ p → numbered o p ≡ Some actor → IsActor actor name
  go (Some digits) p is other e = system digits (after-is (codes "sys") name digits is) (number_of 2 4 digits) refl e
  go None None is other e = absurd (none-some actor e)
  go None (Some digits) is other e = session digits (after-is (codes "s") name digits other) (number_of 1 999 digits) refl e

system-reads : (digits : List ℕ) (n : ℕ) → 0 < length digits → number_of 2 4 digits ≡ Some n → actor_of (codes "sys" ++ digits) ≡ Some (System (n - 1))
system-reads [] n some e = absurd (none-some n e)
system-reads (d ∷ digits) n some e = ap (option_map (λ n. System (n - 1))) e

session-reads : (digits : List ℕ) (n : ℕ) → all_digits digits ≡ true → number_of 1 999 digits ≡ Some n → actor_of (codes "s" ++ digits) ≡ Some (Session (n - 1))
session-reads [] n all e = absurd (none-some n e)
session-reads (d ∷ digits) n all e =
    let parts = and_parts (is_digit d) (all_digits digits) all in
    let range = and_parts (nat_le 48 d) (nat_le d 57) parts.0 in
    let other = ne_eqb d 121 (apart (leb-true d 57 range.1)) in
    rw other (ap (λ (o : Option ℕ). option_map (λ n. Session (n - 1)) o) e)
  where
    apart : d ≤ 57 → d ≢ 121
    apart high e = omega arith

pub actor-back : (actor : Actor) (name : List ℕ) → IsActor actor name → actor_of name ≡ Some actor
actor-back (Session n) name is =
    let same : n + 1 - 1 ≡ n = omega arith in
    ap actor_of is.1 ∙ (session-reads (decimal (n + 1)) (n + 1) (digits-of (n + 1) (omega (arith, is.0))) (number-reads 1 999 (n + 1) (omega arith) (omega (arith, is.0)) (omega arith) (omega (arith, is.0))) ∙ ap (λ x. Some (Session x)) same)
actor-back (System zero) name is = ap actor_of is
actor-back (System (suc n)) name is =
    let same : n + 2 - 1 ≡ suc n = omega arith in
    ap actor_of is.1 ∙ (system-reads (decimal (n + 2)) (n + 2) (a-digit (n + 2) (omega (arith, is.0))) (number-reads 2 4 (n + 2) (omega arith) (omega (arith, is.0)) (omega arith) (omega (arith, is.0))) ∙ ap (λ x. Some (System x)) same)

actor-unmarked : (actor : Actor) (name : List ℕ) → IsActor actor name → unmarked name ≡ true
actor-unmarked (Session n) name is = ap unmarked is.1 ∙ digits-unmarked (decimal (n + 1)) (digits-of (n + 1) (omega (arith, is.0)))
actor-unmarked (System zero) name is = ap unmarked is
actor-unmarked (System (suc n)) name is = ap unmarked is.1 ∙ digits-unmarked (decimal (n + 2)) (digits-of (n + 2) (omega (arith, is.0)))

-- ---- the word

abbrev pub IsFirst : List ℕ → First → Type 0
IsFirst word first = (name : List ℕ) × IsActor first.actor name × (word ≡ name ++ mark_text first.mark)

pub first-is : (word : List ℕ) (first : First) → first_of word ≡ Some first → IsFirst word first
first-is word first e = go (actor_of (before_mark word)) (mark_of (from_mark word)) refl refl e where
  go : (o : Option Actor) (p : Option Mark) → actor_of (before_mark word) ≡ o → mark_of (from_mark word) ≡ p
      → option_and_then (λ actor. option_map (λ mark. record { actor = actor; mark = mark }) p) o ≡ Some first → IsFirst word first
  go None p is other e = absurd (none-some first e)
  go (Some actor) None is other e = absurd (none-some first e)
  go (Some actor) (Some mark) is other e =
      subst (IsFirst word) (same_Some _ first e)
      (before_mark word, actor-is (before_mark word) actor is, parted word ∙ ap (λ (l : List ℕ). before_mark word ++ l) (mark-is (from_mark word) mark other))

starts : (mark : Mark) → before_mark (mark_text mark) ≡ []
starts Whole = refl
starts Started = refl
starts One = refl
starts Rest = refl

reads : (mark : Mark) → mark_of (from_mark (mark_text mark)) ≡ Some mark
reads Whole = refl
reads Started = refl
reads One = refl
reads Rest = refl

pub first-back : (actor : Actor) (mark : Mark) (name : List ℕ) → IsActor actor name → first_of (name ++ mark_text mark) ≡ Some (record { actor = actor; mark = mark })
first-back actor mark name is =
    let plain = actor-unmarked actor name is in
    let who : actor_of (before_mark (name ++ mark_text mark)) ≡ Some actor = ap actor_of (before-mark name (mark_text mark) plain (starts mark)) ∙ actor-back actor name is in
    let how : mark_of (from_mark (name ++ mark_text mark)) ≡ Some mark = ap mark_of (from-mark name (mark_text mark) plain) ∙ reads mark in
    (λ i. option_and_then (λ a. option_map (λ m. record { actor = a; mark = m }) (how i)) (who i))
