-- Where records ascend, what is asked of their names is that a name stands once for each key.
use Rattle.std.proofs.Common.{◌≡◌, ℕ, zero, suc, ◌<◌, ◌==◌, Bool, true, false, cond, List, [], ◌∷◌, length, drop, get_or, Option, Some, None, refl, sym, ap, ◌∙◌, inl, inr, arith}
use Rattle.std.specs.Prelude.{◌⊎◌, ◌&&◌, ◌||◌, not, nat_lt}
use Rattle.std.specs.List.{AllByRecursion}
use Rattle.std.specs.Ordering.{nat_cmp, ordering_then, ordering_reverse, is_eq, is_lt}
use Rattle.std.specs.Cmp.{IsTotalOrder}
use Rattle.std.specs.Cmp.Lexicographic.{slice_cmp}
use Rattle.std.specs.declared.cmp.Ordering.{Ordering}
use Rattle.std.specs.declared.cmp.Ordering.TheVariants.{Less, Equal, Greater}
use Rattle.std.proofs.lemmas.Bool.{cases_Bool, both_ways, and_parts, and_from, or_cases, or_left, or_right, not-true, not_from_false, eqb-true}
use Rattle.std.proofs.lemmas.Cmp.{then_total, on_total, nat_cmp_total, nat_list_cmp_total}
use Rattle.std.proofs.lemmas.Map.Lookups.{exact_bytes}
use Rattle.stamp.specs.declared.name.Name.{Name}
use Rattle.stored.specs.HistoryTree.{HistoryRecord, Mark, mark_of, is_before, RecordsAscend, AreAlike, NamesOnce}
use Rattle.inner_page.specs.Names.{key_cmp, same_key, name_order, name_cmp, climbs, names_climb, stands_again, names_once, names_differ}

-- ---- orders

key_total : IsTotalOrder key_cmp
key_total = then_total (on_total (λ (r : HistoryRecord). r.table) nat_cmp_total) (on_total (λ (r : HistoryRecord). r.key) nat_list_cmp_total)

name_total : IsTotalOrder name_order
name_total = then_total (on_total (λ (n : Name). n.run) nat_cmp_total) (on_total (λ (n : Name). n.id) nat_cmp_total)

self : {K : Type 0} {R : K → K → Ordering} → IsTotalOrder R → (x : K) → R x x ≡ Equal
self {R = R} total x = by (R x x) (total.antisymm x x) where
  by : (o : Ordering) → o ≡ ordering_reverse o → o ≡ Equal
  by Less e = absurd cc
  by Equal e = refl
  by Greater e = absurd cc

eq_is : (o : Ordering) → is_eq o ≡ true → o ≡ Equal
eq_is Less e = absurd cc
eq_is Equal e = refl
eq_is Greater e = absurd cc

lt_is : (o : Ordering) → is_lt o ≡ true → o ≡ Less
lt_is Less e = refl
lt_is Equal e = absurd cc
lt_is Greater e = absurd cc

not_both : (o : Ordering) → o ≡ Less → o ≡ Equal → ⊥
not_both o less equal = absurd (let e : Less ≡ Equal = sym less ∙ equal in cc)

nat_same : (x y : ℕ) → nat_cmp x y ≡ Equal → x ≡ y
nat_same x y e = by (nat_lt x y) (x == y) refl e where
  by : (less same : Bool) → (x == y) ≡ same → cond less Less (cond same Equal Greater) ≡ Equal → x ≡ y
  by true same is e = absurd cc
  by false true is e = eqb-true x y is
  by false false is e = absurd cc

then_equal : (a b : Ordering) → ordering_then a b ≡ Equal → (a ≡ Equal) × (b ≡ Equal)
then_equal Less b e = absurd cc
then_equal Equal b e = (refl, e)
then_equal Greater b e = absurd cc

-- the first two of three orders, where all of them say less
first_two : (a b c : Ordering) → is_lt (ordering_then a (ordering_then b c)) ≡ true → (ordering_then a b ≡ Less) ⊎ (ordering_then a b ≡ Equal)
first_two Less b c e = inl refl
first_two Equal Less c e = inl refl
first_two Equal Equal c e = inr refl
first_two Equal Greater c e = absurd cc
first_two Greater b c e = absurd cc

-- a record before another one has a lesser key, or the same
keys_ascend : (r s : HistoryRecord) → is_before (mark_of r) (mark_of s) ≡ true → (key_cmp r s ≡ Less) ⊎ (key_cmp r s ≡ Equal)
keys_ascend r s before =
    first_two (nat_cmp r.table s.table) (slice_cmp nat_cmp r.key s.key)
    (ordering_then (nat_cmp r.version.window.commit s.version.window.commit) (ordering_then (nat_cmp r.version.window.name.run s.version.window.name.run) (nat_cmp r.version.window.name.id s.version.window.name.id))) before

-- a lesser key is less than what is not less than it
less_then : (r s u : HistoryRecord) → key_cmp r s ≡ Less → (key_cmp s u ≡ Less) ⊎ (key_cmp s u ≡ Equal) → key_cmp r u ≡ Less
less_then r s u less (inl more) = key_total.trans r s u less more
less_then r s u less (inr same) =
    key_total.antisymm r u ∙ ap ordering_reverse (sym (key_total.congr s u r same)) ∙ sym (key_total.antisymm r s) ∙ less

-- ---- records that are not of one version

-- the first has a lesser key, or the same key and another name
abbrev Differ : HistoryRecord → HistoryRecord → Type 0
Differ r s = (key_cmp r s ≡ Less) ⊎ ((key_cmp r s ≡ Equal) × (name_cmp r s ≡ Equal → ⊥))

apart : (r s : HistoryRecord) → Differ r s → AreAlike r s → ⊥
apart r s differ alike =
    let same : key_cmp r s ≡ Equal = ap (λ (n : ℕ). ordering_then (nat_cmp r.table n) (slice_cmp nat_cmp r.key s.key)) (sym alike.table) ∙ ap (λ (k : List ℕ). ordering_then (nat_cmp r.table r.table) (slice_cmp nat_cmp r.key k)) (sym alike.key) ∙ self key_total r in
    elim differ [
      | inl less ↦ not_both (key_cmp r s) less same
      | inr other ↦ other.1 (ap (λ (n : Name). name_order r.version.window.name n) (sym alike.name) ∙ self name_total r.version.window.name)
    ]

all_apart : (r : HistoryRecord) (records : List HistoryRecord) → AllByRecursion (λ (s : HistoryRecord). Differ r s) records → AllByRecursion (λ (s : HistoryRecord). AreAlike r s → ⊥) records
all_apart r [] all = tt
all_apart r (s ∷ records) all = (apart r s all.0, all_apart r records all.1)

-- behind a record of a greater key each has a greater key
all_less : (r s : HistoryRecord) (records : List HistoryRecord) → key_cmp r s ≡ Less → RecordsAscend (Some (mark_of s)) records → AllByRecursion (λ (u : HistoryRecord). Differ r u) records
all_less r s [] less ascend = tt
all_less r s (u ∷ records) less ascend =
    let more : key_cmp r u ≡ Less = less_then r s u less (keys_ascend s u ascend.0) in
    (inl more, all_less r u records more ascend.1)

-- ---- compared two by two

-- Behind a record of the same key whose name is another, what does not stand again differs.
not_again : (r s : HistoryRecord) (records : List HistoryRecord) → (key_cmp r s ≡ Equal) → RecordsAscend (Some (mark_of s)) records → stands_again r records ≡ false → AllByRecursion (λ (u : HistoryRecord). Differ r u) records
not_again r s [] same ascend none = tt
not_again r s (u ∷ records) same ascend none = elim (cases_Bool (same_key r u)) [
  | inl is ↦
      let key : key_cmp r u ≡ Equal = eq_is (key_cmp r u) is in
      let rest : (is_eq (name_cmp r u) || stands_again r records) ≡ false = ap (λ (b : Bool). b && (is_eq (name_cmp r u) || stands_again r records)) (sym is) ∙ none in
      elim (cases_Bool (is_eq (name_cmp r u))) [
        | inl name ↦ absurd (both_ways (is_eq (name_cmp r u) || stands_again r records) rest (or_left (is_eq (name_cmp r u)) (stands_again r records) name))
        | inr name ↦ (
          inr (key, λ e. both_ways (is_eq (name_cmp r u)) name (ap is_eq e)),
          not_again r u records key ascend.1 (ap (λ (b : Bool). b || stands_again r records) (sym name) ∙ rest),
        )
      ]
  | inr isnt ↦ elim (keys_ascend s u ascend.0) [
    | inl more ↦
        let less : key_cmp r u ≡ Less = key_total.congr r s u same ∙ more in
        (inl less, all_less r u records less ascend.1)
    | inr also ↦ absurd (both_ways (same_key r u) isnt (ap is_eq (key_total.congr r s u same ∙ also)))
  ]
]

once_true : (before : Option Mark) (records : List HistoryRecord) → RecordsAscend before records → names_once records ≡ true → NamesOnce records
once_true before [] ascend e = tt
once_true before (r ∷ records) ascend e =
    let p = and_parts (not (stands_again r records)) (names_once records) e in
    (all_apart r records (not_again r r records (self key_total r) ascend.1 (not-true (stands_again r records) p.0)), once_true (Some (mark_of r)) records ascend.1 p.1)

-- what stands again is alike
again_is : (r : HistoryRecord) (records : List HistoryRecord) → stands_again r records ≡ true → AllByRecursion (λ (s : HistoryRecord). AreAlike r s → ⊥) records → ⊥
again_is r [] e all = absurd cc
again_is r (s ∷ records) e all =
    let p = and_parts (same_key r s) (is_eq (name_cmp r s) || stands_again r records) e in
    let keys = then_equal (nat_cmp r.table s.table) (slice_cmp nat_cmp r.key s.key) (eq_is (key_cmp r s) p.0) in
    elim (or_cases (is_eq (name_cmp r s)) (stands_again r records) p.1) [
      | inl name ↦
          let parts = then_equal (nat_cmp r.version.window.name.run s.version.window.name.run) (nat_cmp r.version.window.name.id s.version.window.name.id) (eq_is (name_cmp r s) name) in
          all.0 (record { table = nat_same r.table s.table keys.0; key = exact_bytes r.key s.key keys.1; name = one_name r.version.window.name s.version.window.name (nat_same _ _ parts.0) (nat_same _ _ parts.1) })
      | inr later ↦ again_is r records later all.1
    ]
  where
    one_name : (a b : Name) → a.run ≡ b.run → a.id ≡ b.id → a ≡ b
    one_name a b p q = rw (p, q) refl

once_is : (records : List HistoryRecord) → NamesOnce records → names_once records ≡ true
once_is [] once = refl
once_is (r ∷ records) once =
    and_from (not (stands_again r records)) (names_once records)
    (elim (cases_Bool (stands_again r records)) [ inl again ↦ absurd (again_is r records again once.0) | inr none ↦ not_from_false (stands_again r records) none ])
    (once_is records once.1)

-- ---- names that ascend

-- the first has a lesser key, or the same key and a lesser name
abbrev Under : HistoryRecord → HistoryRecord → Type 0
Under r s = (key_cmp r s ≡ Less) ⊎ ((key_cmp r s ≡ Equal) × (name_cmp r s ≡ Less))

under_differ : (r s : HistoryRecord) → Under r s → Differ r s
under_differ r s (inl less) = inl less
under_differ r s (inr under) = inr (under.0, λ e. not_both (name_cmp r s) under.1 e)

-- the next record is above
next_under : (r s : HistoryRecord) → is_before (mark_of r) (mark_of s) ≡ true → climbs r s ≡ true → Under r s
next_under r s before up = elim (keys_ascend r s before) [
  | inl less ↦ inl less
  | inr same ↦ elim (or_cases (not (same_key r s)) (is_lt (name_cmp r s)) up) [
    | inl other ↦ absurd (both_ways (same_key r s) (not-true (same_key r s) other) (ap is_eq same))
    | inr less ↦ inr (same, lt_is (name_cmp r s) less)
  ]
]

under_then : (r s u : HistoryRecord) → Under r s → Under s u → Under r u
under_then r s u (inl less) (inl more) = inl (less_then r s u less (inl more))
under_then r s u (inl less) (inr more) = inl (less_then r s u less (inr more.0))
under_then r s u (inr same) (inl more) = inl (key_total.congr r s u same.0 ∙ more)
under_then r s u (inr same) (inr more) = inr (key_total.congr r s u same.0 ∙ more.0, name_total.trans r.version.window.name s.version.window.name u.version.window.name same.1 more.1)

all_under : (r s : HistoryRecord) (records : List HistoryRecord) → Under r s → RecordsAscend (Some (mark_of s)) records → names_climb (s ∷ records) ≡ true → AllByRecursion (λ (u : HistoryRecord). Differ r u) (s ∷ records)
all_under r s [] under ascend up = (under_differ r s under, tt)
all_under r s (u ∷ records) under ascend up =
    let p = and_parts (climbs s u) (names_climb (u ∷ records)) up in
    (under_differ r s under, all_under r u records (under_then r s u under (next_under s u ascend.0 p.0)) ascend.1 p.1)

climb_true : (before : Option Mark) (records : List HistoryRecord) → RecordsAscend before records → names_climb records ≡ true → NamesOnce records
climb_true before [] ascend up = tt
climb_true before (r ∷ []) ascend up = (tt, tt)
climb_true before (r ∷ s ∷ records) ascend up =
    let p = and_parts (climbs r s) (names_climb (s ∷ records)) up in
    (all_apart r (s ∷ records) (all_under r s records (next_under r s ascend.1.0 p.0) ascend.1.1 p.1), climb_true (Some (mark_of r)) (s ∷ records) ascend.1 p.1)

-- the names ascend from here on, and one record later
pub climb_step : (records : List HistoryRecord) (k : ℕ) (r s : HistoryRecord) → suc k < length records → r ≡ get_or records k r → s ≡ get_or records (suc k) s → climbs r s ≡ true → names_climb (drop k records) ≡ names_climb (drop (suc k) records)
climb_step [] k r s lt first second up = absurd (omega (arith, lt))
climb_step (x ∷ []) k r s lt first second up = absurd (omega (arith, lt))
climb_step (x ∷ y ∷ records) zero r s lt first second up =
    let both : climbs x y ≡ true = ap (λ (z : HistoryRecord). climbs z y) (sym first) ∙ ap (climbs r) (sym second) ∙ up in
    ap (λ (b : Bool). b && names_climb (y ∷ records)) both
climb_step (x ∷ y ∷ records) (suc k) r s lt first second up = climb_step (y ∷ records) k r s (omega (arith, lt)) first second up

-- ---- both

pub differ_true : (records : List HistoryRecord) → RecordsAscend None records → names_differ records ≡ true → NamesOnce records
differ_true records ascend e = elim (or_cases (names_climb records) (names_once records) e) [
  | inl up ↦ climb_true None records ascend up
  | inr once ↦ once_true None records ascend once
]

pub differ_is : (records : List HistoryRecord) → NamesOnce records → names_differ records ≡ true
differ_is records once = or_right (names_climb records) (names_once records) (once_is records once)
