-- The tables without the last one.
use Rattle.std.proofs.Common.{◌≡◌, ℕ, ◌+◌, ◌<◌, ◌≤◌, true, false, List, [], ◌∷◌, ◌++◌, length, map, None, refl, ap, subst, ◌∙◌, inl, inr, arith}
use Rattle.std.specs.Prelude.{bytes_eq, filter, ltb, not}
use Rattle.std.specs.List.{AllByRecursion}
use Rattle.std.proofs.lemmas.Bool.{cases_Bool}
use Rattle.std.proofs.lemmas.Bool.Decides.{nat_tests}
use Rattle.std.proofs.lemmas.List.{length_push, get_or_append_left, get_or_push}
use Rattle.std.proofs.lemmas.Slice.Eq.{bytes_eq-Decides}
use Rattle.kv_model.specs.History.{Table, named}
use Rattle.kv_model.specs.Decisions.{is_name}
use Rattle.catalog.specs.Known.{AreDistinct, NumbersAscend, by_name, is_below, put_by_name}
use Rattle.catalog.specs.Order.{IsCatalog, IsOrder, no_table, table_at}
use Rattle.catalog.proofs.NameOrder.{other_name}
use Rattle.catalog.proofs.Distinct.{named_none, none_at, head_differs, later_none}
use Rattle.catalog.proofs.Sorting.{by_name_push, none_sorted}
use Rattle.catalog.proofs.InOrder.{sorted_ascends}
use Rattle.catalog.proofs.Following.{all_front}

-- ---- names and numbers

front_none : (name : List ℕ) (tables : List Table) (t : Table) → named name (tables ++ t ∷ []) ≡ None → (named name tables ≡ None) × (bytes_eq t.name name ≡ false)
front_none name [] t none = (refl, head_differs name t [] none)
front_none name (u ∷ later) t none =
    let rest = front_none name later t (later_none name u (later ++ t ∷ []) none) in
    (named_none name u later (head_differs name u (later ++ t ∷ []) none) rest.0, rest.1)

-- the others have names of their own, and none has the last one's
front_distinct : (tables : List Table) (t : Table) → AreDistinct (tables ++ t ∷ []) → AreDistinct tables × (named t.name tables ≡ None)
front_distinct [] t distinct = (tt, refl)
front_distinct (u ∷ later) t distinct =
    let rest = front_distinct later t distinct.1 in
    let here = front_none u.name later t distinct.0 in
    ((here.0, rest.0), named_none t.name u later (other_name t.name u.name here.1) rest.1)

numbers_front : (low : ℕ) (tables : List Table) (t : Table) (next : ℕ) → NumbersAscend low (tables ++ t ∷ []) next → NumbersAscend low tables t.number × (t.number < next)
numbers_front low [] t next ascend = (ascend.0, let below : t.number + 1 ≤ next = ascend.1 in omega (arith, below))
numbers_front low (u ∷ later) t next ascend = let rest = numbers_front (u.number + 1) later t next ascend.1 in ((ascend.0, rest.0), rest.1)

-- ---- the order by name

-- without those of this name
abbrev without : List ℕ → List Table → List Table
without name tables = filter (λ (t : Table). not (bytes_eq t.name name)) tables

without_none : (name : List ℕ) (tables : List Table) → named name tables ≡ None → without name tables ≡ tables
without_none name [] none = refl
without_none name (t ∷ later) none = rw (head_differs name t later none, without_none name later (later_none name t later none)) refl

without_put : (tables : List Table) (t : Table) → named t.name tables ≡ None → without t.name (put_by_name tables t) ≡ tables
without_put [] t none = rw ((bytes_eq-Decides t.name t.name).1 refl) refl
without_put (u ∷ later) t none = elim (cases_Bool (is_below u.name t.name)) [
  | inl is ↦ rw (is, head_differs t.name u later none, without_put later t (later_none t.name u later none)) refl
  | inr isnt ↦ rw (isnt, (bytes_eq-Decides t.name t.name).1 refl) (without_none t.name (u ∷ later) none)
]

-- the places below the last one are those of other names
kept_are : (tables : List Table) (t : Table) (places : List ℕ) → named t.name tables ≡ None → AllByRecursion (λ place. place < length tables + 1) places
    → map (table_at tables) (filter (λ (place : ℕ). ltb place (length tables)) places) ≡ without t.name (map (table_at (tables ++ t ∷ [])) places)
kept_are tables t [] none within = refl
kept_are tables t (place ∷ places) none within = elim (cases_Bool (ltb place (length tables))) [
  | inl is ↦
      let lt : place < length tables = grind (arith, nat_tests, is) in
      rw (is, get_or_append_left tables (t ∷ []) no_table place lt, none_at t.name tables place none lt, kept_are tables t places none within.1) refl
  | inr isnt ↦
      let last : length tables ≡ place = grind (arith, nat_tests, isnt, within.0) in
      rw (isnt, get_or_push tables t no_table place last, (bytes_eq-Decides t.name t.name).1 refl) (kept_are tables t places none within.1)
]

kept_within : (n : ℕ) (places : List ℕ) → AllByRecursion (λ place. place < n) (filter (λ (place : ℕ). ltb place n) places)
kept_within n [] = tt
kept_within n (place ∷ places) = elim (cases_Bool (ltb place n)) [
  | inl is ↦ let lt : place < n = grind (arith, nat_tests, is) in rw is (lt, kept_within n places)
  | inr isnt ↦ rw isnt (kept_within n places)
]

order_taken : (tables : List Table) (t : Table) (places : List ℕ) → IsOrder (tables ++ t ∷ []) places → AreDistinct (tables ++ t ∷ []) → IsOrder tables (filter (λ (place : ℕ). ltb place (length tables)) places)
order_taken tables t places order distinct =
    let front = front_distinct tables t distinct in
    let within : AllByRecursion (λ place. place < length tables + 1) places = subst (λ (n : ℕ). AllByRecursion (λ place. place < n) places) (length_push tables t) order.within in
    record {
      within = kept_within (length tables) places;
      sorted = kept_are tables t places front.1 within ∙ ap (without t.name) (order.sorted ∙ by_name_push tables t) ∙ without_put (by_name tables) t (none_sorted t.name tables front.1);
      ascend = sorted_ascends tables front.0;
    }

-- ---- a catalog without the last table

pub catalog_taken : (tables : List Table) (t : Table) (next : ℕ) (places : List ℕ) → IsCatalog (record { tables = tables ++ t ∷ []; next = next }) places
    → IsCatalog (record { tables = tables; next = t.number }) (filter (λ (place : ℕ). ltb place (length tables)) places)
catalog_taken tables t next places is =
    let numbers = numbers_front 1 tables t next is.tables.numbers in
    record {
      tables = record {
        few = omega (arith, is.tables.few, length_push tables t);
        names = (all_front (λ (u : Table). is_name u.name ≡ true) tables t is.tables.names).0;
        distinct = (front_distinct tables t is.tables.distinct).0;
        numbers = numbers.0;
        next = omega (arith, numbers.1, is.tables.next);
      };
      order = order_taken tables t places is.order is.tables.distinct;
    }
