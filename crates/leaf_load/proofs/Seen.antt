-- The rows of a page that an opening keeps.
use Rattle.std.proofs.Common.{◌≡◌, ◌+◌, ◌≤◌, ◌∙◌, ◌++◌, ℕ, zero, suc, Bool, IsTrue, List, [], ◌∷◌, length, take, Some, refl, ap, subst, inl, inr, arith}
use Rattle.std.specs.Prelude.{filter}
use Rattle.std.specs.List.{AllByRecursion, slice_get}
use Rattle.std.proofs.lemmas.Bool.{cases_Bool}
use Rattle.std.proofs.lemmas.List.{length-append}
use Rattle.std.proofs.lemmas.List.Elements.{filter-append}
use Rattle.row_page.specs.Rows.{AreRows, Row, cell, cells}
use Rattle.row_page.proofs.Steps.{take_next}
use Rattle.leaf_rows.proofs.Filters.{ascend_filter, fit_filter}

-- ---- all of them

pub all_kept : (p : Row → Bool) (rows : List Row) → AllByRecursion (λ (r : Row). IsTrue (p r)) rows → filter p rows ≡ rows
all_kept p [] all = refl
all_kept p (r ∷ rows) all = rw all.0 (ap (λ (l : List Row). r ∷ l) (all_kept p rows all.1))

pub all_at : (P : Row → Type 0) (rows : List Row) (i : ℕ) (r : Row) → AllByRecursion P rows → slice_get rows i ≡ Some r → P r
all_at P [] i r all is = cc
all_at P (x ∷ rows) zero r all is = let same : x ≡ r = cc in subst P same all.0
all_at P (x ∷ rows) (suc i) r all is = all_at P rows i r all.1 is

all_behind : (P : Row → Type 0) (rows : List Row) (r : Row) → AllByRecursion P rows → P r → AllByRecursion P (rows ++ r ∷ [])
all_behind P [] r all is = (is, tt)
all_behind P (x ∷ rows) r all is = (all.0, all_behind P rows r all.1 is)

-- of the first rows, and the next
pub all_next : (P : Row → Type 0) (rows : List Row) (i : ℕ) (r : Row) → AllByRecursion P (take i rows) → slice_get rows i ≡ Some r → P r → AllByRecursion P (take (i + 1) rows)
all_next P rows i r all at is = rw (take_next i rows r at) (all_behind P (take i rows) r all is)

-- ---- some of them

pub some_all : (P : Row → Type 0) (p : Row → Bool) (rows : List Row) → AllByRecursion P rows → AllByRecursion P (filter p rows)
some_all P p [] all = tt
some_all P p (r ∷ rows) all = elim (cases_Bool (p r)) [
  | inl is ↦ rw is (all.0, some_all P p rows all.1)
  | inr isnt ↦ rw isnt (some_all P p rows all.1)
]

pub some_next : (p : Row → Bool) (rows : List Row) (i : ℕ) (r : Row) → slice_get rows i ≡ Some r → filter p (take (i + 1) rows) ≡ filter p (take i rows) ++ filter p (r ∷ [])
some_next p rows i r at = ap (filter p) (take_next i rows r at) ∙ filter-append p (take i rows) (r ∷ [])

fewer_bytes : (p : Row → Bool) (rows : List Row) → length (cells (filter p rows)) ≤ length (cells rows)
fewer_bytes p [] = omega arith
fewer_bytes p (r ∷ rows) = elim (cases_Bool (p r)) [
  | inl is ↦ rw is (omega (arith, length-append (cell r) (cells (filter p rows)), length-append (cell r) (cells rows), fewer_bytes p rows))
  | inr isnt ↦ rw isnt (omega (arith, length-append (cell r) (cells rows), fewer_bytes p rows))
]

first_bytes : (rows : List Row) (i : ℕ) → length (cells (take i rows)) ≤ length (cells rows)
first_bytes [] zero = omega arith
first_bytes [] (suc i) = omega arith
first_bytes (r ∷ rows) zero = omega arith
first_bytes (r ∷ rows) (suc i) = omega (arith, length-append (cell r) (cells (take i rows)), length-append (cell r) (cells rows), first_bytes rows i)

-- they have room where all have
pub have_room : (p : Row → Bool) (rows : List Row) (i : ℕ) → AreRows rows → 16 + length (cells (filter p (take i rows))) ≤ 32768
have_room p rows i are = omega (arith, are.size, fewer_bytes p (take i rows), first_bytes rows i)

pub some_rows : (p : Row → Bool) (rows : List Row) → AreRows rows → AreRows (filter p rows)
some_rows p rows are = record {
  fit = fit_filter p rows are.fit;
  ascend = ascend_filter p _ rows are.ascend;
  size = omega (arith, are.size, fewer_bytes p rows);
}
