-- Versions that an opening keeps by the greatest of them.
use Rattle.std.proofs.Common.{◌≡◌, ◌<◌, ◌≤◌, ◌⊎◌, ℕ, Bool, true, false, IsTrue, List, [], ◌∷◌, refl, inl, inr, arith}
use Rattle.std.specs.Prelude.{max, ◌||◌, ◌&&◌, ◌==◌, nat_le, nat_lt}
use Rattle.std.specs.List.{AllByRecursion}
use Rattle.std.proofs.Math.Bool.{or-true}
use Rattle.std.proofs.lemmas.Bool.{cases_Bool, cases_lt, and_parts, ltb-true, lt-ltb, leb-true, le-leb, eqb-true, eq-eqb}
use Rattle.stamp.specs.declared.name.Name.{Name}
use Rattle.stamp.specs.Order.{is_before, later}
use Rattle.kv_model.specs.Content.{sees_name}
use Rattle.row_page.specs.Greatest.{durables_of, greatest_in, most_in, names_of}
use Rattle.row_page.specs.Rows.{Row}
use Rattle.leaf_rows.specs.declared.marks.Marks.{Marks}
use Rattle.leaf_rows.specs.Contents.{is_seen_row}
use Rattle.leaf_load.specs.Loads.{are_surely_seen}

-- ---- the order of names

abbrev Before : Name → Name → Type 0
Before x y = (x.run < y.run) ⊎ (x.run ≡ y.run) × (x.id < y.id)

or_is : (b c : Bool) → (b || c) ≡ true → (b ≡ true) ⊎ (c ≡ true)
or_is true c e = inl refl
or_is false c e = inr e

before_is : (x y : Name) → is_before x y ≡ true → Before x y
before_is x y e = elim (or_is (nat_lt x.run y.run) ((x.run == y.run) && nat_lt x.id y.id) e) [
  | inl less ↦ inl (ltb-true _ _ less)
  | inr same ↦ let p = and_parts (x.run == y.run) (nat_lt x.id y.id) same in inr (eqb-true _ _ p.0, ltb-true _ _ p.1)
]

is_lower : (x y : Name) → Before x y → is_before x y ≡ true
is_lower x y (inl less) = let l : nat_lt x.run y.run ≡ true = lt-ltb _ _ less in rw l refl
is_lower x y (inr same) =
    let e : (x.run == y.run) ≡ true = eq-eqb _ _ same.0 in
    let l : nat_lt x.id y.id ≡ true = lt-ltb _ _ same.1 in
    rw (e, l) (or-true (nat_lt x.run y.run))

before_trans : (x y z : Name) → Before x y → Before y z → Before x z
before_trans x y z (inl a) (inl b) = inl (omega (arith, a, b))
before_trans x y z (inl a) (inr b) = inl (omega (arith, a, b.0))
before_trans x y z (inr a) (inl b) = inl (omega (arith, a.0, b))
before_trans x y z (inr a) (inr b) = inr (omega (arith, a.0, b.0), omega (arith, a.1, b.1))

-- what is between
between : (x y z : Name) → Before x z → Before x y ⊎ Before y z
between x y z (inl a) = elim (cases_lt x.run y.run) [ inl less ↦ inl (inl less) | inr more ↦ inr (inl (omega (arith, a, more))) ]
between x y z (inr a) = elim (cases_lt x.run y.run) [
  | inl less ↦ inl (inl less)
  | inr more ↦ elim (cases_lt y.run z.run) [
    | inl less ↦ inr (inl less)
    | inr most ↦ elim (cases_lt x.id y.id) [
      | inl under ↦ inl (inr (omega (arith, a.0, more, most), under))
      | inr over ↦ inr (inr (omega (arith, a.0, more, most), omega (arith, a.1, over)))
    ]
  ]
]

-- both of two are before what the later one is before
both_before : (x y z : Name) → is_before (later x y) z ≡ true → (is_before x z ≡ true) × (is_before y z ≡ true)
both_before x y z = elim (cases_Bool (is_before x y)) [
  | inl is ↦ rw is (λ below. (is_lower x z (before_trans x y z (before_is x y is) (before_is y z below)), below))
  | inr isnt ↦ rw isnt (λ below. (
    below,
    elim (between x y z (before_is x z below)) [
      | inl less ↦ absurd (false_true (is_before x y) isnt (is_lower x y less))
      | inr over ↦ is_lower y z over
    ],
  ))
]
  where
    false_true : (b : Bool) → b ≡ false → b ≡ true → ⊥
    false_true b f t = cc

-- ---- what is kept by its marks

-- the first name that may not have been seen
abbrev first_unseen : Marks → Name
first_unseen m = record { run = m.run; id = m.min }

-- an earlier one is seen, whichever ids had not ended
early_seen : (m : Marks) (ids : List ℕ) (n : Name) → is_before n (first_unseen m) ≡ true → sees_name m.run (record { min = m.min; max = m.max; ids = ids }) n ≡ true
early_seen m ids n early = elim (before_is n (first_unseen m) early) [
  | inl less ↦ let l : nat_lt n.run m.run ≡ true = lt-ltb _ _ less in rw l refl
  | inr same ↦
      let e : (n.run == m.run) ≡ true = eq-eqb _ _ same.0 in
      let l : nat_lt n.id m.min ≡ true = lt-ltb _ _ same.1 in
      rw (e, l) (or-true (nat_lt n.run m.run))
]

-- a stamp that is no later than one that is stable is stable
abbrev is_stable_at : Marks → ℕ → Bool
is_stable_at m durable = (m.stable == 0) || nat_le durable m.stable

stable_below : (m : Marks) (a b : ℕ) → a ≤ b → is_stable_at m b ≡ true → is_stable_at m a ≡ true
stable_below m a b low is = elim (or_is (m.stable == 0) (nat_le b m.stable) is) [
  | inl none ↦ rw none refl
  | inr least ↦
      let l : nat_le a m.stable ≡ true = le-leb _ _ (omega (arith, low, leb-true b m.stable least)) in
      rw l (or-true (m.stable == 0))
]

each_seen : (m : Marks) (ids : List ℕ) (rows : List Row) → is_before (greatest_in (names_of rows)) (first_unseen m) ≡ true → is_stable_at m (most_in (durables_of rows)) ≡ true → AllByRecursion (λ (r : Row). IsTrue (is_seen_row m ids r)) rows
each_seen m ids [] early stable = tt
each_seen m ids (r ∷ rows) early stable =
    let both = both_before r.1.window.name (greatest_in (names_of rows)) (first_unseen m) early in
    let seen = early_seen m ids r.1.window.name both.0 in
    let kept = stable_below m r.1.window.durable (max r.1.window.durable (most_in (durables_of rows))) (omega arith) stable in
    let others = stable_below m (most_in (durables_of rows)) (max r.1.window.durable (most_in (durables_of rows))) (omega arith) stable in
    (rw (seen, kept) refl, each_seen m ids rows both.1 others)

-- each row is kept where the greatest of them is
pub surely_seen : (m : Marks) (ids : List ℕ) (rows : List Row) → IsTrue (are_surely_seen m (greatest_in (names_of rows)) (most_in (durables_of rows))) → AllByRecursion (λ (r : Row). IsTrue (is_seen_row m ids r)) rows
surely_seen m ids rows are =
    let both = and_parts (is_before (greatest_in (names_of rows)) (first_unseen m)) (is_stable_at m (most_in (durables_of rows))) are in
    each_seen m ids rows both.0 both.1
