-- The first tables of a catalog, and their order by name.
use Rattle.std.specs.Prelude.{◌≡◌, ℕ, zero, suc, ◌+◌, ◌<◌, ◌≤◌, ◌==◌, ◌||◌, Bool, true, false, List, [], ◌∷◌, ◌++◌, length, map, filter, take, Some, None, slice_get, slice_index_or, refl}
use Rattle.std.specs.List.{AllByRecursion}
use Rattle.std.proofs.Common.{inl, inr, ap, subst, sym, arith}
use Rattle.std.proofs.lemmas.Bool.{cases_Bool, cases_lt, both_ways, eq-eqb}
use Rattle.kv_model.specs.History.{Table, named}
use Rattle.kv_model.specs.Holds.{Member}
use Rattle.catalog.specs.Known.{AreDistinct, AreTables, Known, NumbersAscend, by_name, is_below}
use Rattle.catalog.specs.Order.{Ascend}
use Rattle.catalog.proofs.Distinct.{head_differs, later_none, named_none}
use Rattle.catalog.proofs.InOrder.{lists_are_one, order_keeps, sorted_ascends}
use Rattle.reconcile.proofs.Sifting.{filter_member, member_filter}
use Rattle.device_leaf.specs.NoHistory.{no_root}
use Rattle.stored.specs.Records.{Root, TableRoot}
use Rattle.ckpt_step.specs.Records.{of_number}
use Rattle.ckpt_step.specs.Trees.{table_root}
use Rattle.ckpt_step.proofs.ByName.{number_differs, of_number_at}
use Rattle.ckpt_step.proofs.ByPlace.{next_above}
use Rattle.ckpt_step.proofs.Members.{get_member, member_at, none_some, some_same}

-- ---- the first of a list

pub taken_get : {A : Type 0} (n : ℕ) (xs : List A) (j : ℕ) (x : A) → slice_get xs j ≡ Some x → j < n → slice_get (take n xs) j ≡ Some x
taken_get zero xs j x at lt = absurd (omega (arith, lt))
taken_get (suc n) [] j x at lt = absurd (none_some at)
taken_get (suc n) (y ∷ xs) zero x at lt = at
taken_get (suc n) (y ∷ xs) (suc j) x at lt = taken_get n xs j x at (omega (arith, lt))

pub get_taken : {A : Type 0} (n : ℕ) (xs : List A) (x : A) → Member x (take n xs) → (j : ℕ) × (j < n) × (slice_get xs j ≡ Some x)
get_taken zero xs x there = absurd there
get_taken (suc n) [] x there = absurd there
get_taken (suc n) (y ∷ xs) x (inl same) = (zero, omega arith, ap Some (sym same))
get_taken (suc n) (y ∷ xs) x (inr there) = let later = get_taken n xs x there in (suc later.0, omega (arith, later.1), later.2)

pub take_fewer : {A : Type 0} (n : ℕ) (xs : List A) → length (take n xs) ≤ length xs
take_fewer zero xs = omega arith
take_fewer (suc n) [] = omega arith
take_fewer (suc n) (x ∷ xs) = omega (arith, take_fewer n xs)

all_take : {A : Type 0} (P : A → Type 0) (n : ℕ) (xs : List A) → AllByRecursion P xs → AllByRecursion P (take n xs)
all_take P zero xs all = tt
all_take P (suc n) [] all = tt
all_take P (suc n) (x ∷ xs) all = (all.0, all_take P n xs all.1)

-- ---- they are tables of a catalog too

named_take : (name : List ℕ) (n : ℕ) (known : List Table) → named name known ≡ None → named name (take n known) ≡ None
named_take name zero known none = refl
named_take name (suc n) [] none = refl
named_take name (suc n) (t ∷ known) none = named_none name t (take n known) (head_differs name t known none) (named_take name n known (later_none name t known none))

distinct_take : (n : ℕ) (known : List Table) → AreDistinct known → AreDistinct (take n known)
distinct_take zero known distinct = tt
distinct_take (suc n) [] distinct = tt
distinct_take (suc n) (t ∷ known) distinct = (named_take t.name n known distinct.0, distinct_take n known distinct.1)

pub ascend_take : (low n : ℕ) (known : List Table) (next : ℕ) → NumbersAscend low known next → NumbersAscend low (take n known) next
ascend_take low zero known next ascend = next_above low known next ascend
ascend_take low (suc n) [] next ascend = ascend
ascend_take low (suc n) (t ∷ known) next ascend = (ascend.0, ascend_take (t.number + 1) n known next ascend.1)

abbrev pub first_of : ℕ → Known → Known
first_of n known = record { tables = take n known.tables; next = known.next }

pub first_are : (n : ℕ) (known : Known) → AreTables known → AreTables (first_of n known)
first_are n known are = record {
  few = omega (arith, are.few, take_fewer n known.tables);
  names = all_take _ n known.tables are.names;
  distinct = distinct_take n known.tables are.distinct;
  numbers = ascend_take 1 n known.tables known.next are.numbers;
  next = are.next;
}

-- ---- by number

-- the number is that of one of the first tables
abbrev pub is_first : ℕ → List Table → ℕ → Bool
is_first zero known number = false
is_first (suc n) [] number = false
is_first (suc n) (t ∷ known) number = (t.number == number) || is_first n known number

pub first_in : (low : ℕ) (known : List Table) (next n j : ℕ) (t : Table) → NumbersAscend low known next → slice_get known j ≡ Some t → j < n → is_first n known t.number ≡ true
first_in low [] next n j t ascend at lt = absurd (none_some at)
first_in low (u ∷ known) next zero j t ascend at lt = absurd (omega (arith, lt))
first_in low (u ∷ known) next (suc n) zero t ascend at lt = let same : (u.number == t.number) ≡ true = eq-eqb u.number t.number (ap (λ (z : Table). z.number) (some_same at)) in rw same refl
first_in low (u ∷ known) next (suc n) (suc j) t ascend at lt = rw (number_differs u known next j t ascend.1 at) (first_in (u.number + 1) known next n j t ascend.1 at (omega (arith, lt)))

pub first_past : (low : ℕ) (known : List Table) (next n j : ℕ) (t : Table) → NumbersAscend low known next → slice_get known j ≡ Some t → n ≤ j → is_first n known t.number ≡ false
first_past low [] next n j t ascend at le = absurd (none_some at)
first_past low (u ∷ known) next zero j t ascend at le = refl
first_past low (u ∷ known) next (suc n) zero t ascend at le = absurd (omega (arith, le))
first_past low (u ∷ known) next (suc n) (suc j) t ascend at le = rw (number_differs u known next j t ascend.1 at) (first_past (u.number + 1) known next n j t ascend.1 at (omega (arith, le)))

-- ---- by name

all_kept : (P : Table → Type 0) (p : Table → Bool) (l : List Table) → AllByRecursion P l → AllByRecursion P (filter p l)
all_kept P p [] all = tt
all_kept P p (t ∷ l) all = elim (cases_Bool (p t)) [
  | inl is ↦ rw is (all.0, all_kept P p l all.1)
  | inr isnt ↦ rw isnt (all_kept P p l all.1)
]

ascend_kept : (p : Table → Bool) (l : List Table) → Ascend l → Ascend (filter p l)
ascend_kept p [] ascend = tt
ascend_kept p (t ∷ l) ascend = elim (cases_Bool (p t)) [
  | inl is ↦ rw is (all_kept (λ (other : Table). is_below t.name other.name ≡ true) p l ascend.0, ascend_kept p l ascend.1)
  | inr isnt ↦ rw isnt (ascend_kept p l ascend.1)
]

-- the table is one of the first
abbrev pub in_first : ℕ → List Table → Table → Bool
in_first n known t = is_first n known t.number

module _ (n : ℕ) (known : Known) (are : AreTables known) where
  at_place : (t : Table) (j : ℕ) → slice_get known.tables j ≡ Some t → in_first n known.tables t ≡ true → Member t (take n known.tables)
  at_place t j at is = elim (cases_lt j n) [
    | inl lt ↦ get_member (take n known.tables) j t (taken_get n known.tables j t at lt)
    | inr le ↦ absurd (both_ways (in_first n known.tables t) (first_past 1 known.tables known.next n j t are.numbers at (omega (arith, le))) is)
  ]

  into_first : (t : Table) → Member t (filter (in_first n known.tables) (by_name known.tables)) → Member t (by_name (take n known.tables))
  into_first t there =
      let both = filter_member (in_first n known.tables) (by_name known.tables) t there in
      let place = member_at t known.tables ((order_keeps known.tables t).0 both.0) in
      (order_keeps (take n known.tables) t).1 (at_place t place.0 place.1 both.1)

  from_first : (t : Table) → Member t (by_name (take n known.tables)) → Member t (filter (in_first n known.tables) (by_name known.tables))
  from_first t there =
      let place = get_taken n known.tables t ((order_keeps (take n known.tables) t).0 there) in
      member_filter (in_first n known.tables) (by_name known.tables) t ((order_keeps known.tables t).1 (get_member known.tables place.0 t place.2)) (first_in 1 known.tables known.next n place.0 t are.numbers place.2 place.1)

  -- of all tables by name the first ones are the first ones by name
  pub first_by_name : filter (in_first n known.tables) (by_name known.tables) ≡ by_name (take n known.tables)
  first_by_name = lists_are_one (filter (in_first n known.tables) (by_name known.tables)) (by_name (take n known.tables)) (ascend_kept (in_first n known.tables) (by_name known.tables) (sorted_ascends known.tables are.distinct)) (sorted_ascends (take n known.tables) (distinct_take n known.tables are.distinct)) into_first from_first

-- the table with the root of its tree
abbrev pub rooted_in : List Table → List Root → Table → TableRoot
rooted_in known roots t = table_root t (of_number no_root known roots t.number)

-- the root is the one at its place
pub rooted_at : (n : ℕ) (known : Known) (are : AreTables known) (roots : List Root) (place : ℕ) (t : Table) → slice_get known.tables place ≡ Some t → place < n → rooted_in (take n known.tables) roots t ≡ table_root t (slice_index_or roots place no_root)
rooted_at n known are roots place t at lt = ap (table_root t) (of_number_at no_root 1 (take n known.tables) known.next roots place t (ascend_take 1 n known.tables known.next are.numbers) (taken_get n known.tables place t at lt))

-- ---- one after the other

module _ {A B : Type 0} (f : A → B) (p : A → Bool) where
  pub sifted_more : (xs : List A) (i : ℕ) (x : A) → slice_get xs i ≡ Some x → p x ≡ true → map f (filter p (take (suc i) xs)) ≡ map f (filter p (take i xs)) ++ f x ∷ []
  sifted_more [] i x at is = absurd (none_some at)
  sifted_more (y ∷ xs) zero x at is = subst (λ (z : A). map f (filter p (z ∷ [])) ≡ f x ∷ []) (sym (some_same at)) (rw is refl)
  sifted_more (y ∷ xs) (suc i) x at is = elim (cases_Bool (p y)) [
    | inl own ↦ rw own (ap (λ (l : List B). f y ∷ l) (sifted_more xs i x at is))
    | inr other ↦ rw other (sifted_more xs i x at is)
  ]

  pub sifted_same : (xs : List A) (i : ℕ) (x : A) → slice_get xs i ≡ Some x → p x ≡ false → map f (filter p (take (suc i) xs)) ≡ map f (filter p (take i xs))
  sifted_same [] i x at isnt = absurd (none_some at)
  sifted_same (y ∷ xs) zero x at isnt = subst (λ (z : A). map f (filter p (z ∷ [])) ≡ []) (sym (some_same at)) (rw isnt refl)
  sifted_same (y ∷ xs) (suc i) x at isnt = elim (cases_Bool (p y)) [
    | inl own ↦ rw own (ap (λ (l : List B). f y ∷ l) (sifted_same xs i x at isnt))
    | inr other ↦ rw other (sifted_same xs i x at isnt)
  ]

  pub sifted_all : (xs : List A) (i : ℕ) → slice_get xs i ≡ None → map f (filter p (take i xs)) ≡ map f (filter p xs)
  sifted_all [] zero at = refl
  sifted_all [] (suc i) at = refl
  sifted_all (y ∷ xs) zero at = absurd cc
  sifted_all (y ∷ xs) (suc i) at = elim (cases_Bool (p y)) [
    | inl own ↦ rw own (ap (λ (l : List B). f y ∷ l) (sifted_all xs i at))
    | inr other ↦ rw other (sifted_all xs i at)
  ]
