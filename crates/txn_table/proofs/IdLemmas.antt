-- Lists of ids after one joins or leaves.
use Rattle.std.proofs.Common.{◌≡◌, ◌⊎◌, ◌<◌, ◌≤◌, ◌+◌, ℕ, zero, suc, refl, ap, sym, ◌∙◌, Bool, true, false, List, [], ◌∷◌, ◌++◌, length, inl, inr, get_or, arith}
use Rattle.std.specs.Prelude.{◌==◌, remove}
use Rattle.std.proofs.lemmas.Bool.{cases_Bool, both_ways, eq-eqb, ne_eqb, eqb-true, or_left, or_right, or_cases}
use Rattle.snapshot.specs.Sight.{Ascends, is_listed}
use Rattle.snapshot.proofs.Listed.{ascends-lower, listed-within, listed-at}
use Rattle.txn_table.specs.Tabled.{without}

-- the two cases of a list without an id
without-here : (id x : ℕ) (ids : List ℕ) → x ≡ id → without id (x ∷ ids) ≡ without id ids
without-here id x ids e = rw (eq-eqb x id e) refl

without-other : (id x : ℕ) (ids : List ℕ) → (x ≡ id → ⊥) → without id (x ∷ ids) ≡ x ∷ without id ids
without-other id x ids ne = rw (ne_eqb x id ne) refl

listed-later : (x id : ℕ) (ids : List ℕ) → is_listed ids id ≡ true → is_listed (x ∷ ids) id ≡ true
listed-later x id ids e = or_right (x == id) (is_listed ids id) e

listed-here : (x id : ℕ) (ids : List ℕ) → x ≡ id → is_listed (x ∷ ids) id ≡ true
listed-here x id ids e = or_left (x == id) (is_listed ids id) (eq-eqb x id e)

unlisted-head : (x id : ℕ) (ids : List ℕ) → is_listed (x ∷ ids) id ≡ false → x ≡ id → ⊥
unlisted-head x id ids none e = both_ways (is_listed (x ∷ ids) id) none (listed-here x id ids e)

false-from : (b : Bool) → (b ≡ true → ⊥) → b ≡ false
false-from true f = absurd (f refl)
false-from false f = refl

unlisted-tail : (x id : ℕ) (ids : List ℕ) → is_listed (x ∷ ids) id ≡ false → is_listed ids id ≡ false
unlisted-tail x id ids none = false-from (is_listed ids id) (λ e. both_ways (is_listed (x ∷ ids) id) none (listed-later x id ids e))

pub without-none : (id : ℕ) (ids : List ℕ) → is_listed ids id ≡ false → without id ids ≡ ids
without-none id [] none = refl
without-none id (x ∷ ids) none = without-other id x ids (unlisted-head x id ids none) ∙ ap (λ l. x ∷ l) (without-none id ids (unlisted-tail x id ids none))

pub listed-without : (id y : ℕ) (ids : List ℕ) → is_listed (without id ids) y ≡ true → (is_listed ids y ≡ true) × (y ≡ id → ⊥)
listed-without id y [] e = absurd (cc)
listed-without id y (x ∷ ids) e = elim (cases_Bool (x == id)) [
  | inl is ↦ let rest = listed-without id y ids (ap (λ l. is_listed l y) (sym (without-here id x ids (eqb-true x id is))) ∙ e) in (listed-later x y ids rest.0, rest.1)
  | inr isnt ↦ let ne : (x ≡ id → ⊥) = λ s. both_ways (x == id) isnt (eq-eqb x id s) in
      elim (or_cases (x == y) (is_listed (without id ids) y) (ap (λ l. is_listed l y) (sym (without-other id x ids ne)) ∙ e)) [
        | inl here ↦ (listed-here x y ids (eqb-true x y here), λ s. ne (eqb-true x y here ∙ s))
        | inr later ↦ let rest = listed-without id y ids later in (listed-later x y ids rest.0, rest.1)
      ]
]

pub without-listed : (id y : ℕ) (ids : List ℕ) → is_listed ids y ≡ true → (y ≡ id → ⊥) → is_listed (without id ids) y ≡ true
without-listed id y [] e ne = e
without-listed id y (x ∷ ids) e ne = elim (cases_Bool (x == id)) [
  | inl is ↦ ap (λ l. is_listed l y) (without-here id x ids (eqb-true x id is)) ∙ (elim (or_cases (x == y) (is_listed ids y) e) [
    | inl here ↦ absurd (ne (sym (eqb-true x y here) ∙ eqb-true x id is))
    | inr later ↦ without-listed id y ids later ne
  ])
  | inr isnt ↦ let other : (x ≡ id → ⊥) = λ s. both_ways (x == id) isnt (eq-eqb x id s) in
      ap (λ l. is_listed l y) (without-other id x ids other) ∙ (elim (or_cases (x == y) (is_listed ids y) e) [
        | inl here ↦ listed-here x y (without id ids) (eqb-true x y here)
        | inr later ↦ listed-later x y (without id ids) (without-listed id y ids later ne)
      ])
]

pub ascends-without : (low high id : ℕ) (ids : List ℕ) → Ascends low ids high → Ascends low (without id ids) high
ascends-without low high id [] a = a
ascends-without low high id (x ∷ ids) a = elim (cases_Bool (x == id)) [
  | inl is ↦ let e = without-here id x ids (eqb-true x id is) in let first = a.0 in
      rw e (ascends-lower (x + 1) low high (without id ids) (omega arith) (ascends-without (x + 1) high id ids a.1))
  | inr isnt ↦ let e = without-other id x ids (λ s. both_ways (x == id) isnt (eq-eqb x id s)) in rw e (a.0, ascends-without (x + 1) high id ids a.1)
]

pub without-shorter : (id : ℕ) (ids : List ℕ) → is_listed ids id ≡ true → length (without id ids) + 1 ≤ length ids
without-shorter id [] e = absurd (cc)
without-shorter id (x ∷ ids) e = elim (cases_Bool (x == id)) [
  | inl is ↦ let s = ap length (without-here id x ids (eqb-true x id is)) in let rest = without-le id ids in omega arith
  | inr isnt ↦ let ne : (x ≡ id → ⊥) = λ s. both_ways (x == id) isnt (eq-eqb x id s) in let s = ap length (without-other id x ids ne) in
      elim (or_cases (x == id) (is_listed ids id) e) [
        | inl here ↦ absurd (both_ways (x == id) isnt here)
        | inr later ↦ let rest = without-shorter id ids later in omega arith
      ]
] where
  without-le : (id : ℕ) (ids : List ℕ) → length (without id ids) ≤ length ids
  without-le id [] = omega arith
  without-le id (x ∷ ids) = elim (cases_Bool (x == id)) [
    | inl is ↦ let s = ap length (without-here id x ids (eqb-true x id is)) in let rest = without-le id ids in omega arith
    | inr isnt ↦ let s = ap length (without-other id x ids (λ s. both_ways (x == id) isnt (eq-eqb x id s))) in let rest = without-le id ids in omega arith
  ]

-- in an ascending list an id stands once
pub remove-without : (low high id : ℕ) (ids : List ℕ) (i : ℕ) → Ascends low ids high → i < length ids → get_or ids i 0 ≡ id → remove ids i ≡ without id ids
remove-without low high id [] i a lt e = absurd (omega arith)
remove-without low high id (x ∷ ids) zero a lt e = sym (without-here id x ids e ∙ without-none id ids (false-from (is_listed ids id) (λ l. let w = listed-within (x + 1) high ids id a.1 l in let above = w.0 in omega arith)))
remove-without low high id (x ∷ ids) (suc i) a lt e =
    let ne : (x ≡ id → ⊥) = λ s. let w = listed-within (x + 1) high ids id a.1 (listed-at ids i id (omega arith) e) in let above = w.0 in omega arith in
    ap (λ l. x ∷ l) (remove-without (x + 1) high id ids i a.1 (omega arith) e) ∙ sym (without-other id x ids ne)

-- ---- one more

pub ascends-append : (low high : ℕ) (ids : List ℕ) → Ascends low ids high → Ascends low (ids ++ high ∷ []) (high + 1)
ascends-append low high [] a = (a, omega arith)
ascends-append low high (x ∷ ids) a = (a.0, ascends-append (x + 1) high ids a.1)

pub listed-append : (id y : ℕ) (ids : List ℕ) → is_listed ids y ≡ true → is_listed (ids ++ id ∷ []) y ≡ true
listed-append id y [] e = absurd (cc)
listed-append id y (x ∷ ids) e = elim (or_cases (x == y) (is_listed ids y) e) [
  | inl here ↦ listed-here x y (ids ++ id ∷ []) (eqb-true x y here)
  | inr later ↦ listed-later x y (ids ++ id ∷ []) (listed-append id y ids later)
]

pub listed-last : (id : ℕ) (ids : List ℕ) → is_listed (ids ++ id ∷ []) id ≡ true
listed-last id [] = listed-here id id [] refl
listed-last id (x ∷ ids) = listed-later x id (ids ++ id ∷ []) (listed-last id ids)

pub append-listed : (id y : ℕ) (ids : List ℕ) → is_listed (ids ++ id ∷ []) y ≡ true → (is_listed ids y ≡ true) ⊎ (id ≡ y)
append-listed id y [] e = elim (or_cases (id == y) false e) [ inl here ↦ inr (eqb-true id y here) | inr none ↦ absurd (cc) ]
append-listed id y (x ∷ ids) e = elim (or_cases (x == y) (is_listed (ids ++ id ∷ []) y) e) [
  | inl here ↦ inl (listed-here x y ids (eqb-true x y here))
  | inr later ↦ elim (append-listed id y ids later) [ inl old ↦ inl (listed-later x y ids old) | inr new ↦ inr new ]
]
