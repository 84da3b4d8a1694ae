-- The order of names, by run and then by id.
use Rattle.std.proofs.Common.{◌≡◌, ℕ, ap, sym, ◌∙◌, true, false, inl, inr, arith}
use Rattle.std.specs.Prelude.{◌&&◌, ◌==◌, nat_lt}
use Rattle.std.proofs.lemmas.Bool.{cases_order, and_parts, and_from, or_cases, or_left, or_right, both_ways, eqb-true, eq-eqb, ltb-true, lt-ltb}
use Rattle.stamp.specs.declared.Name.{Name}
use Rattle.kv_model.specs.History.{name_eq}
use Rattle.kv_model.specs.Ordered.{NameBelow}
use Rattle.snapshot.specs.Past.{is_below}

pub below-is : (x y : Name) → is_below x y ≡ true → NameBelow x y
below-is x y is = elim (or_cases (nat_lt x.run y.run) ((x.run == y.run) && nat_lt x.id y.id) is) [
  | inl runs ↦ inl (ltb-true x.run y.run runs)
  | inr ids ↦ let p = and_parts (x.run == y.run) (nat_lt x.id y.id) ids in inr (eqb-true x.run y.run p.0, ltb-true x.id y.id p.1)
]

pub is-below : (x y : Name) → NameBelow x y → is_below x y ≡ true
is-below x y (inl runs) = or_left (nat_lt x.run y.run) ((x.run == y.run) && nat_lt x.id y.id) (lt-ltb x.run y.run runs)
is-below x y (inr ids) = or_right (nat_lt x.run y.run) ((x.run == y.run) && nat_lt x.id y.id) (and_from (x.run == y.run) (nat_lt x.id y.id) (eq-eqb x.run y.run ids.0) (lt-ltb x.id y.id ids.1))

-- of two other names one is below
pub above-is : (x y : Name) → is_below x y ≡ false → name_eq x y ≡ false → NameBelow y x
above-is x y low same = elim (cases_order x.run y.run) [
  | inr (inl l) ↦ absurd (both_ways (is_below x y) low (is-below x y (inl l)))
  | inr (inr g) ↦ inl g
  | inl runs ↦ elim (cases_order x.id y.id) [
    | inl ids ↦ absurd (both_ways (name_eq x y) same (and_from (x.run == y.run) (x.id == y.id) (eq-eqb x.run y.run runs) (eq-eqb x.id y.id ids)))
    | inr (inl l) ↦ absurd (both_ways (is_below x y) low (is-below x y (inr (runs, l))))
    | inr (inr g) ↦ inr (sym runs, g)
  ]
]

pub below-over : (x y z : Name) → NameBelow x y → NameBelow y z → NameBelow x z
below-over x y z (inl a) (inl b) = inl (omega arith)
below-over x y z (inl a) (inr b) = let e = b.0 in inl (omega arith)
below-over x y z (inr a) (inl b) = let e = a.0 in inl (omega arith)
below-over x y z (inr a) (inr b) = let e = a.0 in let f = b.0 in let g = a.1 in let h = b.1 in inr ((omega arith), (omega arith))

named : (run id : ℕ) → Name
named run id = record { run = run; id = id }

pub same-name : (x y : Name) → name_eq x y ≡ true → x ≡ y
unfolding named
same-name x y is =
    let p = and_parts (x.run == y.run) (x.id == y.id) is in
    ap (λ (run : ℕ). named run x.id) (eqb-true x.run y.run p.0) ∙ ap (named y.run) (eqb-true x.id y.id p.1)
