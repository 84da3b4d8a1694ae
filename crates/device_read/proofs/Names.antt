-- The order of names.
use Rattle.std.proofs.Common.{◌≡◌, ◌⊎◌, ◌<◌, ◌≤◌, true, false, inl, inr, refl, arith}
use Rattle.std.specs.Prelude.{◌&&◌, ◌==◌, nat_lt}
use Rattle.std.proofs.lemmas.Bool.{and_from, and_parts, both_ways, cases_lt, cases_order, eq-eqb, eqb-true, false_from_ne_true, lt-ltb, ltb-true, or_cases, or_left, or_right}
use Rattle.stamp.specs.Order.{is_before}
use Rattle.stamp.specs.declared.name.Name.{Name}
use Rattle.kv_model.specs.Ordered.{NameBelow}

pub before_below : (x y : Name) → is_before x y ≡ true → NameBelow x y
before_below x y is = elim (or_cases (nat_lt x.run y.run) ((x.run == y.run) && nat_lt x.id y.id) is) [
  | inl runs ↦ inl (ltb-true x.run y.run runs)
  | inr ids ↦ let p = and_parts (x.run == y.run) (nat_lt x.id y.id) ids in inr (eqb-true x.run y.run p.0, ltb-true x.id y.id p.1)
]

pub below_before : (x y : Name) → NameBelow x y → is_before x y ≡ true
below_before x y (inl runs) = or_left (nat_lt x.run y.run) ((x.run == y.run) && nat_lt x.id y.id) (lt-ltb x.run y.run runs)
below_before x y (inr ids) = or_right (nat_lt x.run y.run) ((x.run == y.run) && nat_lt x.id y.id) (and_from (x.run == y.run) (nat_lt x.id y.id) (eq-eqb x.run y.run ids.0) (lt-ltb x.id y.id ids.1))

-- the other is before it, or they are the same
abbrev pub NotBefore : Name → Name → Type 0
NotBefore x y = (y.run < x.run) ⊎ ((x.run ≡ y.run) × (y.id ≤ x.id))

not_before : (x y : Name) → is_before x y ≡ false → NotBefore x y
not_before x y denied = elim (cases_order x.run y.run) [
  | inl runs ↦ elim (cases_lt x.id y.id) [
    | inl less ↦ absurd (both_ways (is_before x y) denied (below_before x y (inr (runs, less))))
    | inr most ↦ inr (runs, most)
  ]
  | inr (inl less) ↦ absurd (both_ways (is_before x y) denied (below_before x y (inl less)))
  | inr (inr more) ↦ inl more
]

apart : (x y : Name) → NotBefore x y → NameBelow x y → ⊥
apart x y (inl a) (inl b) = omega (arith, a, b)
apart x y (inl a) (inr b) = omega (arith, a, b.0)
apart x y (inr a) (inl b) = omega (arith, a.0, b)
apart x y (inr a) (inr b) = omega (arith, a.1, b.1)

over : (x y z : Name) → NotBefore x y → NotBefore y z → NotBefore x z
over x y z (inl a) (inl b) = inl (omega (arith, a, b))
over x y z (inl a) (inr b) = inl (omega (arith, a, b.0))
over x y z (inr a) (inl b) = inl (omega (arith, a.0, b))
over x y z (inr a) (inr b) = inr (omega (arith, a.0, b.0), omega (arith, a.1, b.1))

pub not_itself : (x : Name) → is_before x x ≡ false
not_itself x = false_from_ne_true (is_before x x) (λ is. apart x x (inr (refl, omega arith)) (before_below x x is))

pub not_over : (x y z : Name) → is_before x y ≡ false → is_before y z ≡ false → is_before x z ≡ false
not_over x y z first next = false_from_ne_true (is_before x z) (λ is. apart x z (over x y z (not_before x y first) (not_before y z next)) (before_below x z is))

pub not_back : (x y : Name) → is_before x y ≡ true → is_before y x ≡ false
not_back x y is = false_from_ne_true (is_before y x) (λ back. against (before_below x y is) (before_below y x back))
  where
    against : NameBelow x y → NameBelow y x → ⊥
    against (inl a) (inl b) = omega (arith, a, b)
    against (inl a) (inr b) = omega (arith, a, b.0)
    against (inr a) (inl b) = omega (arith, a.0, b)
    against (inr a) (inr b) = omega (arith, a.1, b.1)
