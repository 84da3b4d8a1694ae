-- Lists that ascend, and what is listed.
use Rattle.std.proofs.Common.{◌≡◌, ◌⊎◌, ◌<◌, ◌≤◌, ◌+◌, ℕ, zero, suc, refl, ap, sym, ◌∙◌, true, false, List, [], ◌∷◌, length, inl, inr, get_or, arith}
use Rattle.std.specs.Prelude.{◌==◌, insert}
use Rattle.std.proofs.lemmas.Bool.{cases_order, lt-ltb, le-ltb, eq-eqb, ne_eqb, eqb-true, or_left, or_right, or_cases}
use Rattle.snapshot.specs.Sight.{Ascends, is_listed, least_or, with_id}

pub ascends-lower : (low lower high : ℕ) (ids : List ℕ) → lower ≤ low → Ascends low ids high → Ascends lower ids high
ascends-lower low lower high [] le a = omega arith
ascends-lower low lower high (id ∷ ids) le a = (omega arith, a.1)

ascends-low : (low high : ℕ) (ids : List ℕ) (i : ℕ) → Ascends low ids high → i < length ids → low ≤ get_or ids i 0
ascends-low low high [] i a lt = absurd (omega arith)
ascends-low low high (id ∷ ids) zero a lt = a.0
ascends-low low high (id ∷ ids) (suc i) a lt = let later = ascends-low (id + 1) high ids i a.1 (omega arith) in let first = a.0 in omega arith

pub ascends-order : (low high : ℕ) (ids : List ℕ) → Ascends low ids high → (i j : ℕ) → i ≤ j → j < length ids → get_or ids i 0 ≤ get_or ids j 0
ascends-order low high [] a i j le lt = absurd (omega arith)
ascends-order low high (id ∷ ids) a zero zero le lt = omega arith
ascends-order low high (id ∷ ids) a zero (suc j) le lt = let later = ascends-low (id + 1) high ids j a.1 (omega arith) in omega arith
ascends-order low high (id ∷ ids) a (suc i) zero le lt = absurd (omega arith)
ascends-order low high (id ∷ ids) a (suc i) (suc j) le lt = ascends-order (id + 1) high ids a.1 i j (omega arith) (omega arith)

pub listed-at : (ids : List ℕ) (i x : ℕ) → i < length ids → get_or ids i 0 ≡ x → is_listed ids x ≡ true
listed-at [] i x lt e = absurd (omega arith)
listed-at (id ∷ ids) zero x lt e = or_left (id == x) (is_listed ids x) (eq-eqb id x e)
listed-at (id ∷ ids) (suc i) x lt e = or_right (id == x) (is_listed ids x) (listed-at ids i x (omega arith) e)

pub unlisted : (ids : List ℕ) (x : ℕ) → ((i : ℕ) → i < length ids → get_or ids i 0 ≡ x → ⊥) → is_listed ids x ≡ false
unlisted [] x none = refl
unlisted (id ∷ ids) x none = rw (ne_eqb id x (none 0 (omega arith))) (unlisted ids x (λ i lt e. none (suc i) (omega arith) e))

-- what is listed lies from the least on and below the bound
pub listed-within : (low high : ℕ) (ids : List ℕ) (x : ℕ) → Ascends low ids high → is_listed ids x ≡ true → (low ≤ x) × (x < high)
listed-within low high [] x a e = absurd (cc)
listed-within low high (id ∷ ids) x a e = elim (or_cases (id == x) (is_listed ids x) e) [
  | inl here ↦ let same = eqb-true id x here in let bound = high-above (id + 1) high ids a.1 in let first = a.0 in (omega arith, omega arith)
  | inr later ↦ let rest = listed-within (id + 1) high ids x a.1 later in let first = a.0 in let low_of = rest.0 in let high_of = rest.1 in (omega arith, omega arith)
] where
  high-above : (low high : ℕ) (ids : List ℕ) → Ascends low ids high → low ≤ high
  high-above low high [] a = a
  high-above low high (id ∷ ids) a = let more = high-above (id + 1) high ids a.1 in let first = a.0 in omega arith

pub ascends-bound : (low high : ℕ) (ids : List ℕ) → Ascends low ids high → low ≤ high
ascends-bound low high [] a = a
ascends-bound low high (id ∷ ids) a = let more = ascends-bound (id + 1) high ids a.1 in let first = a.0 in omega arith

-- an ascending list ascends from its least on
pub ascends-least : (low high : ℕ) (ids : List ℕ) → Ascends low ids high → Ascends (least_or high ids) ids high
ascends-least low high [] a = omega arith
ascends-least low high (id ∷ ids) a = (omega arith, a.1)

-- ---- one id more

-- the three cases of a list with one id more
with-below : (other id : ℕ) (ids : List ℕ) → id < other → with_id (other ∷ ids) id ≡ id ∷ (other ∷ ids)
with-below other id ids lt = rw (lt-ltb id other lt) refl

with-here : (other id : ℕ) (ids : List ℕ) → other ≡ id → with_id (other ∷ ids) id ≡ other ∷ ids
with-here other id ids e = rw (le-ltb id other (omega arith), eq-eqb other id e) refl

with-above : (other id : ℕ) (ids : List ℕ) → other < id → with_id (other ∷ ids) id ≡ other ∷ with_id ids id
with-above other id ids lt = rw (le-ltb id other (omega arith), ne_eqb other id (λ e. omega arith)) refl

-- where it is there the list stays
pub with-listed : (low high : ℕ) (ids : List ℕ) (i id : ℕ) → Ascends low ids high → i < length ids → get_or ids i 0 ≡ id → with_id ids id ≡ ids
with-listed low high [] i id a lt e = absurd (omega arith)
with-listed low high (other ∷ ids) zero id a lt e = with-here other id ids e
with-listed low high (other ∷ ids) (suc i) id a lt e =
    let above = ascends-low (other + 1) high ids i a.1 (omega arith) in
    with-above other id ids (omega arith) ∙ ap (λ l. other ∷ l) (with-listed (other + 1) high ids i id a.1 (omega arith) e)

-- else it stands where a search of the list ends
pub with-inserted : (ids : List ℕ) (i id : ℕ) → i ≤ length ids → ((k : ℕ) → k < i → get_or ids k 0 < id) → ((k : ℕ) → i ≤ k → k < length ids → id < get_or ids k 0) → insert ids i id ≡ with_id ids id
with-inserted [] zero id le below above = refl
with-inserted [] (suc i) id le below above = absurd (omega arith)
with-inserted (other ∷ ids) zero id le below above = sym (with-below other id ids (above 0 (omega arith) (omega arith)))
with-inserted (other ∷ ids) (suc i) id le below above =
    ap (λ l. other ∷ l) (with-inserted ids i id (omega arith) (λ k lt. below (suc k) (omega arith)) (λ k least lt. above (suc k) (omega arith) (omega arith)))
    ∙ sym (with-above other id ids (below 0 (omega arith)))

pub ascends-with : (low high : ℕ) (ids : List ℕ) (id : ℕ) → Ascends low ids high → low ≤ id → id < high → Ascends low (with_id ids id) high
ascends-with low high [] id a le lt = (le, omega arith)
ascends-with low high (other ∷ ids) id a le lt = elim (cases_order id other) [
  | inl here ↦ rw (with-here other id ids (sym here)) a
  | inr rest ↦ elim rest [
    | inl below ↦ rw (with-below other id ids below) (le, (omega arith, a.1))
    | inr above ↦ rw (with-above other id ids above) (a.0, ascends-with (other + 1) high ids id a.1 (omega arith) lt)
  ]
]

pub with-length : (ids : List ℕ) (id : ℕ) → length (with_id ids id) ≤ length ids + 1
with-length [] id = omega arith
with-length (other ∷ ids) id = elim (cases_order id other) [
  | inl here ↦ let e = ap length (with-here other id ids (sym here)) in omega arith
  | inr rest ↦ elim rest [
    | inl below ↦ let e = ap length (with-below other id ids below) in omega arith
    | inr above ↦ let e = ap length (with-above other id ids above) in let more = with-length ids id in omega arith
  ]
]

-- what is listed then
pub with-finds : (ids : List ℕ) (id x : ℕ) → is_listed (with_id ids id) x ≡ true → (is_listed ids x ≡ true) ⊎ (id ≡ x)
with-finds [] id x e = elim (or_cases (id == x) false e) [ inl here ↦ inr (eqb-true id x here) | inr none ↦ absurd (cc) ]
with-finds (other ∷ ids) id x e = elim (cases_order id other) [
  | inl here ↦ inl (ap (λ l. is_listed l x) (sym (with-here other id ids (sym here))) ∙ e)
  | inr rest ↦ elim rest [
    | inl below ↦ elim (or_cases (id == x) (is_listed (other ∷ ids) x) (ap (λ l. is_listed l x) (sym (with-below other id ids below)) ∙ e)) [ inl here ↦ inr (eqb-true id x here) | inr there ↦ inl there ]
    | inr above ↦ elim (or_cases (other == x) (is_listed (with_id ids id) x) (ap (λ l. is_listed l x) (sym (with-above other id ids above)) ∙ e)) [
      | inl here ↦ inl (or_left (other == x) (is_listed ids x) here)
      | inr later ↦ elim (with-finds ids id x later) [ inl there ↦ inl (or_right (other == x) (is_listed ids x) there) | inr same ↦ inr same ]
    ]
  ]
]

pub with-new : (ids : List ℕ) (id : ℕ) → is_listed (with_id ids id) id ≡ true
with-new [] id = or_left (id == id) false (eq-eqb id id refl)
with-new (other ∷ ids) id = elim (cases_order id other) [
  | inl here ↦ ap (λ l. is_listed l id) (with-here other id ids (sym here)) ∙ or_left (other == id) (is_listed ids id) (eq-eqb other id (sym here))
  | inr rest ↦ elim rest [
    | inl below ↦ ap (λ l. is_listed l id) (with-below other id ids below) ∙ or_left (id == id) (is_listed (other ∷ ids) id) (eq-eqb id id refl)
    | inr above ↦ ap (λ l. is_listed l id) (with-above other id ids above) ∙ or_right (other == id) (is_listed (with_id ids id) id) (with-new ids id)
  ]
]

pub with-old : (ids : List ℕ) (id x : ℕ) → is_listed ids x ≡ true → is_listed (with_id ids id) x ≡ true
with-old [] id x e = absurd (cc)
with-old (other ∷ ids) id x e = elim (cases_order id other) [
  | inl here ↦ ap (λ l. is_listed l x) (with-here other id ids (sym here)) ∙ e
  | inr rest ↦ elim rest [
    | inl below ↦ ap (λ l. is_listed l x) (with-below other id ids below) ∙ or_right (id == x) (is_listed (other ∷ ids) x) e
    | inr above ↦ ap (λ l. is_listed l x) (with-above other id ids above) ∙ (elim (or_cases (other == x) (is_listed ids x) e) [
      | inl here ↦ or_left (other == x) (is_listed (with_id ids id) x) here
      | inr later ↦ or_right (other == x) (is_listed (with_id ids id) x) (with-old ids id x later)
    ])
  ]
]
