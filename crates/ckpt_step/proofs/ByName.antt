-- Tables by name, with what is by place.
use Rattle.std.proofs.Common.{◌≡◌, ℕ, zero, suc, ◌+◌, false, List, [], ◌∷◌, ◌++◌, length, take, map, Some, None, refl, ap, inl, inr, arith}
use Rattle.std.specs.Prelude.{◌==◌, fold, slice_get, slice_index_or}
use Rattle.std.proofs.lemmas.Bool.{cases_Bool, eq-eqb, ne_eqb}
use Rattle.std.proofs.lemmas.Option.{same_Some}
use Rattle.kv_model.specs.History.{Table}
use Rattle.catalog.specs.Known.{NumbersAscend, by_name, is_below, put_by_name}
use Rattle.engine_world.proofs.EditedLeaves.{got-member}
use Rattle.ckpt_step.specs.Records.{of_number}
use Rattle.ckpt_step.proofs.ByPlace.{number_least}

-- ---- by number

pub number_differs : (u : Table) (later : List Table) (next : ℕ) (j : ℕ) (t : Table) → NumbersAscend (u.number + 1) later next → slice_get later j ≡ Some t → (u.number == t.number) ≡ false
number_differs u later next j t ascend is = let most = number_least (u.number + 1) later next t ascend (got-member later j t is) in ne_eqb u.number t.number (λ same. omega (arith, same, most))

pub of_number_at : {A : Type 0} (none : A) (low : ℕ) (known : List Table) (next : ℕ) (xs : List A) (j : ℕ) (t : Table) → NumbersAscend low known next → slice_get known j ≡ Some t → of_number none known xs t.number ≡ slice_index_or xs j none
of_number_at none low [] next xs j t ascend is = absurd cc
of_number_at none low (u ∷ later) next [] j t ascend is = refl
of_number_at none low (u ∷ later) next (x ∷ xs) zero t ascend is = rw (eq-eqb u.number t.number (ap (λ (z : Table). z.number) (same_Some u t is))) refl
of_number_at none low (u ∷ later) next (x ∷ xs) (suc j) t ascend is = rw (number_differs u later next j t ascend.1 is) (of_number_at none (u.number + 1) later next xs j t ascend.1 is)

-- ---- how many there are

put_length : (before : List Table) (t : Table) → length (put_by_name before t) ≡ length before + 1
put_length [] t = refl
put_length (u ∷ later) t = elim (cases_Bool (is_below u.name t.name)) [
  | inl is ↦ rw is (omega (arith, put_length later t))
  | inr isnt ↦ rw isnt (omega arith)
]

fold_length : (before tables : List Table) → length (fold put_by_name before tables) ≡ length before + length tables
fold_length before [] = omega arith
fold_length before (t ∷ later) = omega (arith, fold_length (put_by_name before t) later, put_length before t)

pub by_name_length : (tables : List Table) → length (by_name tables) ≡ length tables
by_name_length tables = omega (arith, fold_length [] tables)

-- ---- one after the other

pub mapped_more : {A B : Type 0} (f : A → B) (xs : List A) (i : ℕ) (x : A) → slice_get xs i ≡ Some x → take (suc i) (map f xs) ≡ take i (map f xs) ++ f x ∷ []
mapped_more f [] i x is = absurd cc
mapped_more f (y ∷ xs) zero x is = ap (λ z. f z ∷ []) (same_Some y x is)
mapped_more f (y ∷ xs) (suc i) x is = ap (λ l. f y ∷ l) (mapped_more f xs i x is)

pub mapped_all : {A B : Type 0} (f : A → B) (xs : List A) (i : ℕ) → slice_get xs i ≡ None → take i (map f xs) ≡ map f xs
mapped_all f [] zero is = refl
mapped_all f [] (suc i) is = refl
mapped_all f (y ∷ xs) zero is = absurd cc
mapped_all f (y ∷ xs) (suc i) is = ap (λ l. f y ∷ l) (mapped_all f xs i is)
