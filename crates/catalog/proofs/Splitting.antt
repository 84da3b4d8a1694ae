-- Where a name stands among tables in the order of their names.
use Rattle.std.proofs.Common.{◌≡◌, ℕ, zero, suc, ◌+◌, ◌<◌, true, false, List, [], ◌∷◌, ◌++◌, length, map, take, drop, get_or, None, refl, sym, ap, subst, inl, inr, arith}
use Rattle.std.specs.Prelude.{bytes_eq}
use Rattle.std.specs.List.{AllByRecursion}
use Rattle.std.proofs.lemmas.Bool.{cases_Bool, both_ways}
use Rattle.kv_model.specs.History.{Table, named}
use Rattle.catalog.specs.Known.{is_below, put_by_name}
use Rattle.catalog.specs.Order.{Ascend, SplitsAt}
use Rattle.catalog.proofs.NameOrder.{below_trans, names_part, below_differs, above_differs}
use Rattle.catalog.proofs.Distinct.{named_none, head_differs, later_none}

one_more : (i : ℕ) → suc i + 1 ≡ suc (i + 1)
one_more i = omega arith

all_at : (P : Table → Type 0) (tables : List Table) (i : ℕ) (t : Table) → AllByRecursion P tables → i < length tables → t ≡ get_or tables i t → P t
all_at P [] i t all lt is = absurd (omega (arith, lt))
all_at P (u ∷ later) zero t all lt is = subst P (sym is) all.0
all_at P (u ∷ later) (suc i) t all lt is = all_at P later i t all.1 (omega (arith, lt)) is

-- ---- the search

pub below_upto : (tables : List Table) (i : ℕ) (t : Table) (name : List ℕ) → Ascend tables → i < length tables → t ≡ get_or tables i t → is_below t.name name ≡ true → AllByRecursion (λ (u : Table). is_below u.name name ≡ true) (take (i + 1) tables)
below_upto [] i t name ascend lt is below = absurd (omega (arith, lt))
below_upto (u ∷ later) zero t name ascend lt is below = (subst (λ (x : Table). is_below x.name name ≡ true) is below, tt)
below_upto (u ∷ later) (suc i) t name ascend lt is below =
    subst (λ (n : ℕ). AllByRecursion (λ (x : Table). is_below x.name name ≡ true) (take n (u ∷ later))) (sym (one_more i))
    (below_trans u.name t.name name (all_at (λ (x : Table). is_below u.name x.name ≡ true) later i t ascend.0 (omega (arith, lt)) is) below, below_upto later i t name ascend.1 (omega (arith, lt)) is below)

not_below_later : (x y name : List ℕ) → is_below x name ≡ false → is_below x y ≡ true → is_below y name ≡ false
not_below_later x y name isnt lt = elim (cases_Bool (is_below y name)) [
  | inl is ↦ absurd (both_ways (is_below x name) isnt (below_trans x y name lt is))
  | inr other ↦ other
]

all_not_below : (x name : List ℕ) (tables : List Table) → is_below x name ≡ false → AllByRecursion (λ (t : Table). is_below x t.name ≡ true) tables → AllByRecursion (λ (t : Table). is_below t.name name ≡ false) tables
all_not_below x name [] isnt all = tt
all_not_below x name (t ∷ later) isnt all = (not_below_later x t.name name isnt all.0, all_not_below x name later isnt all.1)

pub above_from : (tables : List Table) (i : ℕ) (t : Table) (name : List ℕ) → Ascend tables → i < length tables → t ≡ get_or tables i t → is_below t.name name ≡ false → AllByRecursion (λ (u : Table). is_below u.name name ≡ false) (drop i tables)
above_from [] i t name ascend lt is above = absurd (omega (arith, lt))
above_from (u ∷ later) zero t name ascend lt is above =
    let here : is_below u.name name ≡ false = subst (λ (x : Table). is_below x.name name ≡ false) is above in
    (here, all_not_below u.name name later here ascend.0)
above_from (u ∷ later) (suc i) t name ascend lt is above = above_from later i t name ascend.1 (omega (arith, lt)) is above

-- ---- a name that is not there

none_among : (name : List ℕ) (tables : List Table) → AllByRecursion (λ (t : Table). is_below name t.name ≡ true) tables → named name tables ≡ None
none_among name [] all = refl
none_among name (t ∷ later) all = named_none name t later (above_differs t.name name all.0) (none_among name later all.1)

all_below : (x y : List ℕ) (tables : List Table) → is_below x y ≡ true → AllByRecursion (λ (t : Table). is_below y t.name ≡ true) tables → AllByRecursion (λ (t : Table). is_below x t.name ≡ true) tables
all_below x y [] below all = tt
all_below x y (t ∷ later) below all = (below_trans x y t.name below all.0, all_below x y later below all.1)

-- a name that does not stand at its place stands nowhere
pub named_nowhere : (tables : List Table) (name : List ℕ) (i : ℕ) → Ascend tables → SplitsAt tables name i → ((d : Table) → i < length tables → bytes_eq (get_or tables i d).name name ≡ false) → named name tables ≡ None
named_nowhere [] name i ascend splits other = refl
named_nowhere (t ∷ later) name zero ascend splits other =
    let differs : bytes_eq t.name name ≡ false = other t (omega arith) in
    named_none name t later differs (none_among name later (all_below name t.name later (names_part t.name name splits.above.0 differs) ascend.0))
named_nowhere (t ∷ later) name (suc i) ascend splits other =
    named_none name t later (below_differs t.name name splits.below.0)
    (named_nowhere later name i ascend.1 (record { within = omega (arith, splits.within); below = splits.below.1; above = splits.above }) (λ d lt. other d (omega (arith, lt))))

-- ---- one table more

pub put_there : (tables : List Table) (t : Table) (i : ℕ) → SplitsAt tables t.name i → take i tables ++ t ∷ drop i tables ≡ put_by_name tables t
put_there [] t zero splits = refl
put_there [] t (suc i) splits = absurd (omega (arith, splits.within))
put_there (u ∷ later) t zero splits = rw splits.above.0 refl
put_there (u ∷ later) t (suc i) splits =
    rw splits.below.0 (ap (λ (l : List Table). u ∷ l) (put_there later t i (record { within = omega (arith, splits.within); below = splits.below.1; above = splits.above })))

all_put : (P : Table → Type 0) (tables : List Table) (t : Table) → P t → AllByRecursion P tables → AllByRecursion P (put_by_name tables t)
all_put P [] t new all = (new, tt)
all_put P (u ∷ later) t new all = elim (cases_Bool (is_below u.name t.name)) [
  | inl is ↦ rw is (all.0, all_put P later t new all.1)
  | inr isnt ↦ rw isnt (new, all)
]

pub ascend_put : (tables : List Table) (t : Table) → Ascend tables → named t.name tables ≡ None → Ascend (put_by_name tables t)
ascend_put [] t ascend none = (tt, tt)
ascend_put (u ∷ later) t ascend none = elim (cases_Bool (is_below u.name t.name)) [
  | inl is ↦ rw is (all_put (λ (x : Table). is_below u.name x.name ≡ true) later t is ascend.0, ascend_put later t ascend.1 (later_none t.name u later none))
  | inr isnt ↦
      let above : is_below t.name u.name ≡ true = names_part u.name t.name isnt (head_differs t.name u later none) in
      rw isnt ((above, all_below t.name u.name later above ascend.0), ascend)
]

-- ---- names among the others

pub put_none : (name : List ℕ) (tables : List Table) (t : Table) → bytes_eq t.name name ≡ false → named name tables ≡ None → named name (put_by_name tables t) ≡ None
put_none name [] t differs none = named_none name t [] differs refl
put_none name (u ∷ later) t differs none = elim (cases_Bool (is_below u.name t.name)) [
  | inl is ↦ rw is (named_none name u (put_by_name later t) (head_differs name u later none) (put_none name later t differs (later_none name u later none)))
  | inr isnt ↦ rw isnt (named_none name t (u ∷ later) differs none)
]

pub none_put : (name : List ℕ) (tables : List Table) (t : Table) → named name (put_by_name tables t) ≡ None → (bytes_eq t.name name ≡ false) × (named name tables ≡ None)
none_put name [] t none = (head_differs name t [] none, refl)
none_put name (u ∷ later) t none = elim (cases_Bool (is_below u.name t.name)) [
  | inl is ↦
      let there : named name (u ∷ put_by_name later t) ≡ None = rw is at none in
      let rest = none_put name later t (later_none name u (put_by_name later t) there) in
      (rest.0, named_none name u later (head_differs name u (put_by_name later t) there) rest.1)
  | inr isnt ↦
      let there : named name (t ∷ (u ∷ later)) ≡ None = rw isnt at none in
      (head_differs name t (u ∷ later) there, later_none name t (u ∷ later) there)
]

-- ---- what is read at a place

pub mapped_at : (f : ℕ → Table) (places : List ℕ) (i : ℕ) → i < length places → f (get_or places i 0) ≡ get_or (map f places) i (f (get_or places i 0))
mapped_at f [] i lt = absurd (omega (arith, lt))
mapped_at f (place ∷ later) zero lt = refl
mapped_at f (place ∷ later) (suc i) lt = mapped_at f later i (omega (arith, lt))

pub mapped_or : (f : ℕ → Table) (places : List ℕ) (i : ℕ) (d : Table) → i < length places → get_or (map f places) i d ≡ f (get_or places i 0)
mapped_or f [] i d lt = absurd (omega (arith, lt))
mapped_or f (place ∷ later) zero d lt = refl
mapped_or f (place ∷ later) (suc i) d lt = mapped_or f later i d (omega (arith, lt))

pub place_at : (n : ℕ) (places : List ℕ) (i : ℕ) → AllByRecursion (λ place. place < n) places → i < length places → get_or places i 0 < n
place_at n [] i within lt = absurd (omega (arith, lt))
place_at n (place ∷ later) zero within lt = within.0
place_at n (place ∷ later) (suc i) within lt = place_at n later i within.1 (omega (arith, lt))
