-- Brackets that close: what is read of them is what the grammar says.
use Rattle.std.proofs.Common.{◌≡◌, ◌∙◌, ◌+◌, ◌⊎◌, ℕ, suc, List, [], ◌∷◌, ◌++◌, length, take, drop, get_or, ◌<◌, ◌≤◌, refl, sym, ap, subst, inl, inr, append_assoc, length-append, arith}
use Rattle.std.specs.Prelude.{Bool, true, false, not, ◌==◌, Option, Some, None, option_map, option_and_then}
use Rattle.std.specs.List.{list_all}
use Rattle.std.proofs.lemmas.Bool.{cases_Bool, and_parts, and_from, eqb-true, not-true, not_from_false}
use Rattle.std.proofs.lemmas.Option.{none-some, same_Some}
use Rattle.std.proofs.lemmas.List.{drop_more, drop_all}
use Rattle.config_text.specs.Bytes.{is_plain, is_quotable}
use Rattle.config_text.specs.Grammar.{IsWithin}
use Rattle.config_text.specs.Reading.{Nest, closed_by, unquoted_step, quoted_step, nest_step, closing_len}

-- brackets that are awaited close one after the other, and nothing stands behind the last
abbrev pub Closes : List ℕ → List ℕ → Type 0
Closes [] taken = taken ≡ []
Closes (c ∷ awaited) taken = (inner rest : List ℕ) × IsWithin inner × (taken ≡ inner ++ c ∷ rest) × Closes awaited rest

abbrev ClosesQuote : List ℕ → List ℕ → Type 0
ClosesQuote awaited taken = (text rest : List ℕ) × (list_all is_quotable text ≡ true) × (taken ≡ text ++ 34 ∷ rest) × Closes awaited rest

abbrev ClosesAt : Bool → List ℕ → List ℕ → Type 0
ClosesAt true awaited taken = ClosesQuote awaited taken
ClosesAt false awaited taken = Closes awaited taken

-- a quoted text is inside brackets
abbrev IsInside : Bool → List ℕ → Type 0
IsInside true [] = ⊥
IsInside true (c ∷ awaited) = Unit {0}
IsInside false awaited = Unit {0}

-- ---- one byte in front

nest-quoted : (c : ℕ) (awaited taken : List ℕ) → ClosesQuote (c ∷ awaited) taken → Closes (c ∷ awaited) (34 ∷ taken)
nest-quoted c awaited taken is =
    let more = is.4 in
    let same : taken ≡ (is.0 ++ 34 ∷ more.0) ++ c ∷ more.1 = is.3 ∙ ap (λ (l : List ℕ). is.0 ++ 34 ∷ l) more.3 ∙ sym (append_assoc is.0 (34 ∷ more.0) (c ∷ more.1)) in
    (34 ∷ (is.0 ++ 34 ∷ more.0), more.1, IsWithin.quoted is.0 more.0 is.2 more.2, ap (λ (l : List ℕ). 34 ∷ l) same, more.4)

nest-round : (c : ℕ) (awaited taken : List ℕ) → Closes (41 ∷ c ∷ awaited) taken → Closes (c ∷ awaited) (40 ∷ taken)
nest-round c awaited taken is =
    let more = is.4 in
    let same : taken ≡ (is.0 ++ 41 ∷ more.0) ++ c ∷ more.1 = is.3 ∙ ap (λ (l : List ℕ). is.0 ++ 41 ∷ l) more.3 ∙ sym (append_assoc is.0 (41 ∷ more.0) (c ∷ more.1)) in
    (40 ∷ (is.0 ++ 41 ∷ more.0), more.1, IsWithin.round is.0 more.0 is.2 more.2, ap (λ (l : List ℕ). 40 ∷ l) same, more.4)

nest-square : (c : ℕ) (awaited taken : List ℕ) → Closes (93 ∷ c ∷ awaited) taken → Closes (c ∷ awaited) (91 ∷ taken)
nest-square c awaited taken is =
    let more = is.4 in
    let same : taken ≡ (is.0 ++ 93 ∷ more.0) ++ c ∷ more.1 = is.3 ∙ ap (λ (l : List ℕ). is.0 ++ 93 ∷ l) more.3 ∙ sym (append_assoc is.0 (93 ∷ more.0) (c ∷ more.1)) in
    (91 ∷ (is.0 ++ 93 ∷ more.0), more.1, IsWithin.square is.0 more.0 is.2 more.2, ap (λ (l : List ℕ). 91 ∷ l) same, more.4)

nest-plain : (b c : ℕ) (awaited taken : List ℕ) → is_plain b ≡ true → Closes (c ∷ awaited) taken → Closes (c ∷ awaited) (b ∷ taken)
nest-plain b c awaited taken plain is = (b ∷ is.0, is.1, IsWithin.plain b is.0 plain is.2, ap (λ (l : List ℕ). b ∷ l) is.3, is.4)

nest-closed : (b c : ℕ) (awaited taken : List ℕ) (nest : Nest) → closed_by (c ∷ awaited) b ≡ Some nest → ClosesAt nest.quoted nest.awaited taken → Closes (c ∷ awaited) (b ∷ taken)
nest-closed b c awaited taken nest e is = elim (cases_Bool (c == b)) [
  | inr other ↦ absurd (none-some nest (rw other at e))
  | inl same ↦
      let to : record { quoted = false; awaited = awaited } ≡ nest = same_Some _ nest (rw same at e) in
      let rest : Closes awaited taken = subst (λ (n : Nest). ClosesAt n.quoted n.awaited taken) (sym to) is in
      ([], taken, IsWithin.none, ap (λ (x : ℕ). x ∷ taken) (sym (eqb-true c b same)), rest)
]

plain-from : (b : ℕ) → (b == 34) ≡ false → (b == 40) ≡ false → (b == 91) ≡ false → (b == 41) ≡ false → (b == 93) ≡ false → is_plain b ≡ true
plain-from b q r s t u = rw (q, r, s, t, u) refl

unquoted-front : (b c : ℕ) (awaited taken : List ℕ) (nest : Nest) → unquoted_step (c ∷ awaited) b ≡ Some nest → ClosesAt nest.quoted nest.awaited taken → Closes (c ∷ awaited) (b ∷ taken)
unquoted-front b c awaited taken nest e is = elim (cases_Bool (b == 34)) [
  | inl q ↦ at-byte 34 q (nest-quoted c awaited taken (moved (record { quoted = true; awaited = c ∷ awaited }) (rw q at e)))
  | inr q ↦ elim (cases_Bool (b == 40)) [
    | inl r ↦ at-byte 40 r (nest-round c awaited taken (moved (record { quoted = false; awaited = 41 ∷ c ∷ awaited }) (rw (q, r) at e)))
    | inr r ↦ elim (cases_Bool (b == 91)) [
      | inl s ↦ at-byte 91 s (nest-square c awaited taken (moved (record { quoted = false; awaited = 93 ∷ c ∷ awaited }) (rw (q, r, s) at e)))
      | inr s ↦ elim (cases_Bool (b == 41)) [
        | inl t ↦ nest-closed b c awaited taken nest (rw (q, r, s, t) at e) is
        | inr t ↦ elim (cases_Bool (b == 93)) [
          | inl u ↦ nest-closed b c awaited taken nest (rw (q, r, s, t, u) at e) is
          | inr u ↦ nest-plain b c awaited taken (plain-from b q r s t u) (moved (record { quoted = false; awaited = c ∷ awaited }) (rw (q, r, s, t, u) at e))
        ]
      ]
    ]
  ]
] where
  moved : (start : Nest) → Some start ≡ Some nest → ClosesAt start.quoted start.awaited taken
  moved start to = subst (λ (n : Nest). ClosesAt n.quoted n.awaited taken) (sym (same_Some start nest to)) is

  at-byte : (d : ℕ) → (b == d) ≡ true → Closes (c ∷ awaited) (d ∷ taken) → Closes (c ∷ awaited) (b ∷ taken)
  at-byte d same there = subst (λ (x : ℕ). Closes (c ∷ awaited) (x ∷ taken)) (sym (eqb-true b d same)) there

quoted-front : (b c : ℕ) (awaited taken : List ℕ) (nest : Nest) → quoted_step (c ∷ awaited) b ≡ Some nest → ClosesAt nest.quoted nest.awaited taken → ClosesQuote (c ∷ awaited) (b ∷ taken)
quoted-front b c awaited taken nest e is =
    let there : ClosesAt (not (b == 34)) (c ∷ awaited) taken = subst (λ (n : Nest). ClosesAt n.quoted n.awaited taken) (sym (same_Some _ nest e)) is in
    elim (cases_Bool (b == 34)) [
      | inl q ↦ ([], taken, refl, ap (λ (x : ℕ). x ∷ taken) (eqb-true b 34 q), ended q there)
      | inr q ↦ longer q (going q there)
    ] where
      ended : (b == 34) ≡ true → ClosesAt (not (b == 34)) (c ∷ awaited) taken → Closes (c ∷ awaited) taken
      ended q there = subst (λ t. ClosesAt (not t) (c ∷ awaited) taken) q there

      going : (b == 34) ≡ false → ClosesAt (not (b == 34)) (c ∷ awaited) taken → ClosesQuote (c ∷ awaited) taken
      going q there = subst (λ t. ClosesAt (not t) (c ∷ awaited) taken) q there

      longer : (b == 34) ≡ false → ClosesQuote (c ∷ awaited) taken → ClosesQuote (c ∷ awaited) (b ∷ taken)
      longer q more = (b ∷ more.0, more.1, and_from (is_quotable b) (list_all is_quotable more.0) (not_from_false (b == 34) q) more.2, ap (λ (l : List ℕ). b ∷ l) more.3, more.4)

step-front : (quoted : Bool) (b c : ℕ) (awaited taken : List ℕ) (nest : Nest) → nest_step quoted (c ∷ awaited) b ≡ Some nest → ClosesAt nest.quoted nest.awaited taken → ClosesAt quoted (c ∷ awaited) (b ∷ taken)
step-front true b c awaited taken nest e is = quoted-front b c awaited taken nest e is
step-front false b c awaited taken nest e is = unquoted-front b c awaited taken nest e is

-- a step from inside brackets leads inside or out of them
step-inside : (quoted : Bool) (b c : ℕ) (awaited : List ℕ) (nest : Nest) → nest_step quoted (c ∷ awaited) b ≡ Some nest → IsInside nest.quoted nest.awaited
step-inside true b c awaited nest e = subst (λ (n : Nest). IsInside n.quoted n.awaited) (same_Some _ nest e) (whichever (not (b == 34))) where
  whichever : (q : Bool) → IsInside q (c ∷ awaited)
  whichever true = tt
  whichever false = tt
step-inside false b c awaited nest e = elim (cases_Bool (b == 34)) [
  | inl q ↦ moved (record { quoted = true; awaited = c ∷ awaited }) (rw q at e) tt
  | inr q ↦ elim (cases_Bool (b == 40)) [
    | inl r ↦ moved (record { quoted = false; awaited = 41 ∷ c ∷ awaited }) (rw (q, r) at e) tt
    | inr r ↦ elim (cases_Bool (b == 91)) [
      | inl s ↦ moved (record { quoted = false; awaited = 93 ∷ c ∷ awaited }) (rw (q, r, s) at e) tt
      | inr s ↦ elim (cases_Bool (b == 41)) [
        | inl t ↦ closed (rw (q, r, s, t) at e)
        | inr t ↦ elim (cases_Bool (b == 93)) [
          | inl u ↦ closed (rw (q, r, s, t, u) at e)
          | inr u ↦ moved (record { quoted = false; awaited = c ∷ awaited }) (rw (q, r, s, t, u) at e) tt
        ]
      ]
    ]
  ]
] where
  moved : (start : Nest) → Some start ≡ Some nest → IsInside start.quoted start.awaited → IsInside nest.quoted nest.awaited
  moved start to is = subst (λ (n : Nest). IsInside n.quoted n.awaited) (same_Some start nest to) is

  closed : closed_by (c ∷ awaited) b ≡ Some nest → IsInside nest.quoted nest.awaited
  closed to = elim (cases_Bool (c == b)) [
    | inr other ↦ absurd (none-some nest (rw other at to))
    | inl same ↦ moved (record { quoted = false; awaited = awaited }) (rw same at to) tt
  ]

step-closes : (quoted : Bool) (c : ℕ) (awaited : List ℕ) (b : ℕ) (rest : List ℕ) (n : ℕ)
    → ((nest : Nest) (m : ℕ) → IsInside nest.quoted nest.awaited → closing_len nest.quoted nest.awaited rest ≡ Some m → ClosesAt nest.quoted nest.awaited (take m rest))
    → closing_len quoted (c ∷ awaited) (b ∷ rest) ≡ Some n → ClosesAt quoted (c ∷ awaited) (take n (b ∷ rest))
step-closes quoted c awaited b rest n again e = go (nest_step quoted (c ∷ awaited) b) refl e where
  on : (nest : Nest) → nest_step quoted (c ∷ awaited) b ≡ Some nest → (o : Option ℕ) → closing_len nest.quoted nest.awaited rest ≡ o → option_map suc o ≡ Some n → ClosesAt quoted (c ∷ awaited) (take n (b ∷ rest))
  on nest to None is e = absurd (none-some n e)
  on nest to (Some m) is e =
      subst (λ (k : ℕ). ClosesAt quoted (c ∷ awaited) (take k (b ∷ rest))) (same_Some (suc m) n e)
      (step-front quoted b c awaited (take m rest) nest to (again nest m (step-inside quoted b c awaited nest to) is))

  go : (o : Option Nest) → nest_step quoted (c ∷ awaited) b ≡ o → option_and_then (λ nest. option_map suc (closing_len nest.quoted nest.awaited rest)) o ≡ Some n → ClosesAt quoted (c ∷ awaited) (take n (b ∷ rest))
  go None to e = absurd (none-some n e)
  go (Some nest) to e = on nest to (closing_len nest.quoted nest.awaited rest) refl e

-- what is read closes
closes : (quoted : Bool) (awaited text : List ℕ) (n : ℕ) → IsInside quoted awaited → closing_len quoted awaited text ≡ Some n → ClosesAt quoted awaited (take n text)
closes true [] text n inside e = absurd inside
closes false [] text n inside e = ap (λ (m : ℕ). take m text) (sym (same_Some 0 n e))
closes quoted (c ∷ awaited) [] n inside e = absurd (none-some n e)
closes quoted (c ∷ awaited) (b ∷ rest) n inside e = step-closes quoted c awaited b rest n (λ nest m within is. closes nest.quoted nest.awaited rest m within is) e

-- a bracket whose opening one is read
pub bracket-closes : (closing : ℕ) (rest : List ℕ) (n : ℕ) → closing_len false (closing ∷ []) rest ≡ Some n → (inner : List ℕ) × IsWithin inner × (take n rest ≡ inner ++ closing ∷ [])
bracket-closes closing rest n e = let is = closes false (closing ∷ []) rest n tt e in (is.0, is.2, is.3 ∙ ap (λ (l : List ℕ). is.0 ++ closing ∷ l) is.4)

-- ---- what closes is read

abbrev pub IsClosing : ℕ → Type 0
IsClosing c = (c ≡ 41) ⊎ (c ≡ 93)

closing-step : (c : ℕ) (awaited : List ℕ) → IsClosing c → unquoted_step (c ∷ awaited) c ≡ Some (record { quoted = false; awaited = awaited })
closing-step c awaited (inl e) = rw e refl
closing-step c awaited (inr e) = rw e refl

plain-step : (b : ℕ) (awaited : List ℕ) → is_plain b ≡ true → unquoted_step awaited b ≡ Some (record { quoted = false; awaited = awaited })
plain-step b awaited plain =
    let p = and_parts (not (b == 34)) _ plain in
    let q = and_parts (not (b == 40)) _ p.1 in
    let r = and_parts (not (b == 41)) _ q.1 in
    let s = and_parts (not (b == 91)) (not (b == 93)) r.1 in
    rw (not-true (b == 34) p.0, not-true (b == 40) q.0, not-true (b == 91) s.0, not-true (b == 41) r.0, not-true (b == 93) s.1) refl

stepped : (quoted : Bool) (c : ℕ) (awaited : List ℕ) (b : ℕ) (rest : List ℕ) (nest : Nest) (n : ℕ) → nest_step quoted (c ∷ awaited) b ≡ Some nest → closing_len nest.quoted nest.awaited rest ≡ Some n → closing_len quoted (c ∷ awaited) (b ∷ rest) ≡ Some (suc n)
stepped quoted c awaited b rest nest n to is = ap (option_and_then (λ nest. option_map suc (closing_len nest.quoted nest.awaited rest))) to ∙ ap (option_map suc) is

quote-read : (text : List ℕ) (c : ℕ) (awaited rest : List ℕ) (n : ℕ) → list_all is_quotable text ≡ true → closing_len false (c ∷ awaited) rest ≡ Some n → closing_len true (c ∷ awaited) (text ++ 34 ∷ rest) ≡ Some (length text + suc n)
quote-read [] c awaited rest n passes is = stepped true c awaited 34 rest (record { quoted = false; awaited = c ∷ awaited }) n refl is ∙ ap Some (omega arith)
quote-read (b ∷ text) c awaited rest n passes is =
    let parts = and_parts (is_quotable b) (list_all is_quotable text) passes in
    let other : (b == 34) ≡ false = not-true (b == 34) parts.0 in
    stepped true c awaited b (text ++ 34 ∷ rest) (record { quoted = true; awaited = c ∷ awaited }) (length text + suc n)
    (ap (λ t. Some (record { quoted = not t; awaited = c ∷ awaited })) other) (quote-read text c awaited rest n parts.1 is)
    ∙ ap Some (omega arith)

within-read : {inner : List ℕ} → IsWithin inner → (c : ℕ) (awaited rest : List ℕ) (n : ℕ) → IsClosing c → closing_len false awaited rest ≡ Some n → closing_len false (c ∷ awaited) (inner ++ c ∷ rest) ≡ Some (length inner + suc n)
within-read IsWithin.none c awaited rest n is e = stepped false c awaited c rest (record { quoted = false; awaited = awaited }) n (closing-step c awaited is) e ∙ ap Some (omega arith)
within-read (IsWithin.plain b inner plain more) c awaited rest n is e =
    stepped false c awaited b (inner ++ c ∷ rest) (record { quoted = false; awaited = c ∷ awaited }) (length inner + suc n) (plain-step b (c ∷ awaited) plain) (within-read more c awaited rest n is e)
    ∙ ap Some (omega arith)
within-read (IsWithin.quoted text inner passes more) c awaited rest n is e =
    let behind : closing_len false (c ∷ awaited) (inner ++ c ∷ rest) ≡ Some (length inner + suc n) = within-read more c awaited rest n is e in
    let grouped : (text ++ 34 ∷ inner) ++ c ∷ rest ≡ text ++ 34 ∷ (inner ++ c ∷ rest) = append_assoc text (34 ∷ inner) (c ∷ rest) in
    let len = length-append text (34 ∷ inner) in
    ap (λ (l : List ℕ). closing_len false (c ∷ awaited) (34 ∷ l)) grouped
    ∙ stepped false c awaited 34 (text ++ 34 ∷ (inner ++ c ∷ rest)) (record { quoted = true; awaited = c ∷ awaited }) (length text + suc (length inner + suc n)) refl (quote-read text c awaited (inner ++ c ∷ rest) (length inner + suc n) passes behind)
    ∙ ap Some (omega (arith, len))
within-read (IsWithin.round first inner one more) c awaited rest n is e =
    let behind : closing_len false (c ∷ awaited) (inner ++ c ∷ rest) ≡ Some (length inner + suc n) = within-read more c awaited rest n is e in
    let grouped : (first ++ 41 ∷ inner) ++ c ∷ rest ≡ first ++ 41 ∷ (inner ++ c ∷ rest) = append_assoc first (41 ∷ inner) (c ∷ rest) in
    let len = length-append first (41 ∷ inner) in
    ap (λ (l : List ℕ). closing_len false (c ∷ awaited) (40 ∷ l)) grouped
    ∙ stepped false c awaited 40 (first ++ 41 ∷ (inner ++ c ∷ rest)) (record { quoted = false; awaited = 41 ∷ c ∷ awaited }) (length first + suc (length inner + suc n)) refl (within-read one 41 (c ∷ awaited) (inner ++ c ∷ rest) (length inner + suc n) (inl refl) behind)
    ∙ ap Some (omega (arith, len))
within-read (IsWithin.square first inner one more) c awaited rest n is e =
    let behind : closing_len false (c ∷ awaited) (inner ++ c ∷ rest) ≡ Some (length inner + suc n) = within-read more c awaited rest n is e in
    let grouped : (first ++ 93 ∷ inner) ++ c ∷ rest ≡ first ++ 93 ∷ (inner ++ c ∷ rest) = append_assoc first (93 ∷ inner) (c ∷ rest) in
    let len = length-append first (93 ∷ inner) in
    ap (λ (l : List ℕ). closing_len false (c ∷ awaited) (91 ∷ l)) grouped
    ∙ stepped false c awaited 91 (first ++ 93 ∷ (inner ++ c ∷ rest)) (record { quoted = false; awaited = 93 ∷ c ∷ awaited }) (length first + suc (length inner + suc n)) refl (within-read one 93 (c ∷ awaited) (inner ++ c ∷ rest) (length inner + suc n) (inr refl) behind)
    ∙ ap Some (omega (arith, len))

pub bracket-read : (inner : List ℕ) (closing : ℕ) (rest : List ℕ) → IsWithin inner → IsClosing closing → closing_len false (closing ∷ []) (inner ++ closing ∷ rest) ≡ Some (length inner + 1)
bracket-read inner closing rest is of = within-read is closing [] rest 0 of refl

-- ---- one byte after the other

option-plus : (i : ℕ) (o : Option ℕ) → option_map (λ n. i + n) (option_map suc o) ≡ option_map (λ n. (i + 1) + n) o
option-plus i None = refl
option-plus i (Some n) = ap Some (omega arith)

-- more brackets are awaited
abbrev pub IsAwaiting : List ℕ → Type 0
IsAwaiting awaited = length awaited ≡ 0 → ⊥

next-byte : (quoted : Bool) (awaited : List ℕ) (text : List ℕ) (i : ℕ) → IsAwaiting awaited → i < length text
    → closing_len quoted awaited (drop i text) ≡ option_and_then (λ nest. option_map suc (closing_len nest.quoted nest.awaited (drop (i + 1) text))) (nest_step quoted awaited (get_or text i 0))
next-byte quoted [] text i some inside = absurd (some refl)
next-byte quoted (c ∷ awaited) text i some inside = ap (closing_len quoted (c ∷ awaited)) (drop_more text i 0 inside)

pub byte-taken : (quoted : Bool) (awaited : List ℕ) (nest : Nest) (text : List ℕ) (i : ℕ) (whole : Option ℕ) → IsAwaiting awaited → i < length text → nest_step quoted awaited (get_or text i 0) ≡ Some nest
    → whole ≡ option_map (λ n. i + n) (closing_len quoted awaited (drop i text)) → whole ≡ option_map (λ n. (i + 1) + n) (closing_len nest.quoted nest.awaited (drop (i + 1) text))
byte-taken quoted awaited nest text i whole some inside to before =
    before ∙ ap (option_map (λ n. i + n)) (next-byte quoted awaited text i some inside ∙ ap (option_and_then (λ nest. option_map suc (closing_len nest.quoted nest.awaited (drop (i + 1) text)))) to)
    ∙ option-plus i (closing_len nest.quoted nest.awaited (drop (i + 1) text))

pub byte-refused : (quoted : Bool) (awaited : List ℕ) (text : List ℕ) (i : ℕ) (whole : Option ℕ) → IsAwaiting awaited → i < length text → nest_step quoted awaited (get_or text i 0) ≡ None
    → whole ≡ option_map (λ n. i + n) (closing_len quoted awaited (drop i text)) → whole ≡ None
byte-refused quoted awaited text i whole some inside to before =
    before ∙ ap (option_map (λ n. i + n)) (next-byte quoted awaited text i some inside ∙ ap (option_and_then (λ nest. option_map suc (closing_len nest.quoted nest.awaited (drop (i + 1) text)))) to)

-- the last bracket is closed
pub all-closed : (quoted : Bool) (awaited rest : List ℕ) (i : ℕ) (whole : Option ℕ) → length awaited ≡ 0 → whole ≡ option_map (λ n. i + n) (closing_len quoted awaited rest) → whole ≡ Some i
all-closed quoted [] rest i whole none before = before ∙ ap Some (omega arith)
all-closed quoted (c ∷ awaited) rest i whole none before = absurd (omega (arith, none))

-- the text ends too early
pub text-over : (quoted : Bool) (awaited text : List ℕ) (i : ℕ) (whole : Option ℕ) → IsAwaiting awaited → length text ≤ i → whole ≡ option_map (λ n. i + n) (closing_len quoted awaited (drop i text)) → whole ≡ None
text-over quoted [] text i whole some past before = absurd (some refl)
text-over quoted (c ∷ awaited) text i whole some past before = before ∙ ap (λ (l : List ℕ). option_map (λ n. i + n) (closing_len quoted (c ∷ awaited) l)) (drop_all i text past)

pub nothing-taken : (o : Option ℕ) → o ≡ option_map (λ n. 0 + n) o
nothing-taken None = refl
nothing-taken (Some n) = ap Some (omega arith)
