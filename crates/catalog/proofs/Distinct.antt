-- Names of which no two are the same, and their places.
use Rattle.std.proofs.Common.{◌≡◌, ℕ, zero, suc, ◌+◌, ◌<◌, true, false, List, [], ◌∷◌, ◌++◌, length, Option, Some, None, refl, sym, ap, subst, ◌∙◌, inl, inr, arith}
use Rattle.std.specs.Prelude.{bytes_eq, option_map, option_and_then, slice_get}
use Rattle.std.proofs.lemmas.Bool.{cases_Bool, both_ways}
use Rattle.kv_model.specs.History.{Table, named}
use Rattle.catalog.specs.Known.{AreDistinct, place_of}
use Rattle.catalog.specs.Order.{table_at}
use Rattle.catalog.proofs.NameOrder.{same_name, other_name}

-- ---- a name that no table has

pub named_none : (name : List ℕ) (t : Table) (later : List Table) → bytes_eq t.name name ≡ false → named name later ≡ None → named name (t ∷ later) ≡ None
named_none name t later differs none = rw differs none

pub head_differs : (name : List ℕ) (t : Table) (later : List Table) → named name (t ∷ later) ≡ None → bytes_eq t.name name ≡ false
head_differs name t later none = elim (cases_Bool (bytes_eq t.name name)) [
  | inl same ↦ let some : named name (t ∷ later) ≡ Some t = rw same refl in absurd cc
  | inr other ↦ other
]

pub later_none : (name : List ℕ) (t : Table) (later : List Table) → named name (t ∷ later) ≡ None → named name later ≡ None
later_none name t later none = let differs : bytes_eq t.name name ≡ false = head_differs name t later none in rw differs at none

pub none_at : (name : List ℕ) (tables : List Table) (place : ℕ) → named name tables ≡ None → place < length tables → bytes_eq (table_at tables place).name name ≡ false
none_at name [] place none lt = absurd (omega (arith, lt))
none_at name (t ∷ later) zero none lt = head_differs name t later none
none_at name (t ∷ later) (suc place) none lt = none_at name later place (later_none name t later none) (omega (arith, lt))

pub place_nowhere : (name : List ℕ) (tables : List Table) → named name tables ≡ None → place_of name tables ≡ None
place_nowhere name [] none = refl
place_nowhere name (t ∷ later) none = rw (head_differs name t later none, place_nowhere name later (later_none name t later none)) refl

map_none : (found : Option ℕ) → option_map (λ (place : ℕ). place + 1) found ≡ None → found ≡ None
map_none None is = refl
map_none (Some place) is = absurd cc

pub nowhere_named : (name : List ℕ) (tables : List Table) → place_of name tables ≡ None → named name tables ≡ None
nowhere_named name [] none = refl
nowhere_named name (t ∷ later) none = elim (cases_Bool (bytes_eq t.name name)) [
  | inl same ↦ let some : place_of name (t ∷ later) ≡ Some 0 = rw same refl in absurd cc
  | inr other ↦ rw other (nowhere_named name later (map_none (place_of name later) (rw other at none)))
]

-- ---- the place of a name

one_more : (place : ℕ) → suc place ≡ place + 1
one_more place = omega arith

-- a table that has the name stands at its place
pub place_there : (name : List ℕ) (tables : List Table) (place : ℕ) → AreDistinct tables → place < length tables → bytes_eq (table_at tables place).name name ≡ true → place_of name tables ≡ Some place
place_there name [] place distinct lt same = absurd (omega (arith, lt))
place_there name (t ∷ later) zero distinct lt same = rw same refl
place_there name (t ∷ later) (suc place) distinct lt same = elim (cases_Bool (bytes_eq t.name name)) [
  | inl first ↦ absurd (both_ways (bytes_eq (table_at later place).name name) (none_at name later place (subst (λ (n : List ℕ). named n later ≡ None) (same_name t.name name first) distinct.0) (omega (arith, lt))) same)
  | inr other ↦ rw other (ap (option_map (λ (n : ℕ). n + 1)) (place_there name later place distinct.1 (omega (arith, lt)) same) ∙ ap (λ (n : ℕ). Some n) (sym (one_more place)))
]

get_more : (t : Table) (later : List Table) (found : Option ℕ) → option_and_then (λ place. slice_get later place) found ≡ option_and_then (λ place. slice_get (t ∷ later) place) (option_map (λ (place : ℕ). place + 1) found)
get_more t later None = refl
get_more t later (Some place) = subst (λ (n : ℕ). slice_get later place ≡ slice_get (t ∷ later) n) (one_more place) refl

pub place_named : (tables : List Table) (name : List ℕ) → named name tables ≡ option_and_then (λ place. slice_get tables place) (place_of name tables)
place_named [] name = refl
place_named (t ∷ later) name = elim (cases_Bool (bytes_eq t.name name)) [
  | inl same ↦ rw same refl
  | inr other ↦ rw other (place_named later name ∙ get_more t later (place_of name later))
]

-- ---- one table more

pub none_push : (name : List ℕ) (tables : List Table) (t : Table) → named name tables ≡ None → bytes_eq t.name name ≡ false → named name (tables ++ t ∷ []) ≡ None
none_push name [] t none differs = rw differs refl
none_push name (u ∷ later) t none differs = named_none name u (later ++ t ∷ []) (head_differs name u later none) (none_push name later t (later_none name u later none) differs)

pub distinct_push : (tables : List Table) (t : Table) → AreDistinct tables → named t.name tables ≡ None → AreDistinct (tables ++ t ∷ [])
distinct_push [] t distinct none = (refl, tt)
distinct_push (u ∷ later) t distinct none =
    (none_push u.name later t distinct.0 (other_name u.name t.name (head_differs t.name u later none)), distinct_push later t distinct.1 (later_none t.name u later none))
