-- The greatest of names and of stamps, found from left to right.
use Rattle.std.proofs.Common.{◌≡◌, ℕ, ◌<◌, ◌⊎◌, Bool, true, false, List, [], ◌∷◌, ◌++◌, refl, sym, ap, ◌∙◌, inl, inr, arith}
use Rattle.std.specs.Prelude.{max, ◌||◌, ◌&&◌, ◌==◌, nat_lt}
use Rattle.std.proofs.Math.Bool.{or-true}
use Rattle.std.proofs.lemmas.Bool.{cases_Bool, cases_lt, both_ways, and_parts, ltb-true, lt-ltb, eqb-true, eq-eqb}
use Rattle.stamp.specs.declared.name.Name.{Name}
use Rattle.row_page.specs.Greatest.{no_name, greatest_in, most_in}
use Rattle.stamp.specs.Order.{is_before, later}

Before : Name → Name → Type 0
Before x y = (x.run < y.run) ⊎ (x.run ≡ y.run) × (x.id < y.id)

or_is : (b c : Bool) → (b || c) ≡ true → (b ≡ true) ⊎ (c ≡ true)
or_is true c e = inl refl
or_is false c e = inr e

before_is : (x y : Name) → is_before x y ≡ true → Before x y
unfolding Before
before_is x y e = elim (or_is (nat_lt x.run y.run) ((x.run == y.run) && nat_lt x.id y.id) e) [
  | inl less ↦ inl (ltb-true _ _ less)
  | inr same ↦ let p = and_parts (x.run == y.run) (nat_lt x.id y.id) same in inr (eqb-true _ _ p.0, ltb-true _ _ p.1)
]

is_lower : (x y : Name) → Before x y → is_before x y ≡ true
unfolding Before
is_lower x y (inl less) = let l : nat_lt x.run y.run ≡ true = lt-ltb _ _ less in rw l refl
is_lower x y (inr same) =
    let e : (x.run == y.run) ≡ true = eq-eqb _ _ same.0 in
    let l : nat_lt x.id y.id ≡ true = lt-ltb _ _ same.1 in
    rw (e, l) (or-true (nat_lt x.run y.run))

before_trans : (x y z : Name) → Before x y → Before y z → Before x z
unfolding Before
before_trans x y z (inl a) (inl b) = inl (omega (arith, a, b))
before_trans x y z (inl a) (inr b) = inl (omega (arith, a, b.0))
before_trans x y z (inr a) (inl b) = inl (omega (arith, a.0, b))
before_trans x y z (inr a) (inr b) = inr (omega (arith, a.0, b.0), omega (arith, a.1, b.1))

-- what is between
between : (x y z : Name) → Before x z → Before x y ⊎ Before y z
unfolding Before
between x y z (inl a) = elim (cases_lt x.run y.run) [ inl less ↦ inl (inl less) | inr more ↦ inr (inl (omega (arith, a, more))) ]
between x y z (inr a) = elim (cases_lt x.run y.run) [
  | inl less ↦ inl (inl less)
  | inr more ↦ elim (cases_lt y.run z.run) [
    | inl less ↦ inr (inl less)
    | inr most ↦ elim (cases_lt x.id y.id) [
      | inl under ↦ inl (inr (omega (arith, a.0, more, most), under))
      | inr over ↦ inr (inr (omega (arith, a.0, more, most), omega (arith, a.1, over)))
    ]
  ]
]

lt_trans : (x y z : Name) → is_before x y ≡ true → is_before y z ≡ true → is_before x z ≡ true
lt_trans x y z p q = is_lower x z (before_trans x y z (before_is x y p) (before_is y z q))

ge_trans : (x y z : Name) → is_before x y ≡ false → is_before y z ≡ false → is_before x z ≡ false
ge_trans x y z p q = elim (cases_Bool (is_before x z)) [
  | inl is ↦ elim (between x y z (before_is x z is)) [
    | inl under ↦ absurd (both_ways (is_before x y) p (is_lower x y under))
    | inr over ↦ absurd (both_ways (is_before y z) q (is_lower y z over))
  ]
  | inr isnt ↦ isnt
]

later_later : (x y z : Name) → later x (later y z) ≡ later (later x y) z
later_later x y z = elim (cases_Bool (is_before y z)) [
  | inl yz ↦ elim (cases_Bool (is_before x y)) [
    | inl xy ↦ let xz = lt_trans x y z xy yz in rw (yz, xy, yz, xz) refl
    | inr yx ↦ rw (yz, yx) refl
  ]
  | inr zy ↦ elim (cases_Bool (is_before x y)) [
    | inl xy ↦ rw (zy, xy, zy) refl
    | inr yx ↦ let zx = ge_trans x y z yx zy in rw (zy, yx, zx) refl
  ]
]

later_none : (x : Name) → later x no_name ≡ later no_name x
unfolding Before
later_none x = elim (cases_Bool (is_before x no_name)) [
  | inl is ↦ absurd (nothing x (before_is x no_name is))
  | inr isnt ↦ elim (cases_Bool (is_before no_name x)) [
    | inl more ↦ rw (isnt, more) refl
    | inr none ↦ rw (isnt, none) (zero x none)
  ]
]
  where
    nothing : (x : Name) → Before x no_name → ⊥
    nothing x (inl less) = omega (arith, less)
    nothing x (inr less) = omega (arith, less.1)

    zero : (x : Name) → is_before no_name x ≡ false → x ≡ no_name
    zero x none =
        let run : x.run ≡ 0 = elim (cases_lt 0 x.run) [ inl more ↦ absurd (both_ways (is_before no_name x) none (is_lower no_name x (inl more))) | inr low ↦ omega (arith, low) ] in
        let id : x.id ≡ 0 = elim (cases_lt 0 x.id) [ inl more ↦ absurd (both_ways (is_before no_name x) none (is_lower no_name x (inr (sym run, more)))) | inr low ↦ omega (arith, low) ] in
        ap (λ (n : ℕ). record { run = n; id = x.id }) run ∙ ap (λ (n : ℕ). record { run = 0; id = n }) id

-- one name more
pub greatest_push : (names : List Name) (n : Name) → greatest_in (names ++ n ∷ []) ≡ later (greatest_in names) n
greatest_push [] n = later_none n
greatest_push (x ∷ names) n = ap (λ (y : Name). later x y) (greatest_push names n) ∙ later_later x (greatest_in names) n

max_max : (x y z : ℕ) → max x (max y z) ≡ max (max x y) z
max_max x y z = omega arith

-- one stamp more
pub most_push : (stamps : List ℕ) (s : ℕ) → most_in (stamps ++ s ∷ []) ≡ max (most_in stamps) s
most_push [] s = omega arith
most_push (x ∷ stamps) s = ap (λ (n : ℕ). max x n) (most_push stamps s) ∙ max_max x (most_in stamps) s
