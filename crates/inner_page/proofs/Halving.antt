-- A test that holds of all behind one of which it holds: halving finds where it begins to hold.
use Rattle.std.proofs.Common.{◌≡◌, ℕ, zero, suc, ◌+◌, ◌<◌, Bool, true, false, List, [], ◌∷◌, length, take, drop, get_or, sym, ap, subst, ◌∙◌, inl, inr, arith}
use Rattle.std.specs.List.{AllByRecursion}
use Rattle.std.proofs.lemmas.Bool.{cases_Bool, both_ways}

abbrev pub Rises : {E : Type 0} → (E → Bool) → List E → Type 0
Rises above [] = Unit {0}
Rises above (e ∷ []) = Unit {0}
Rises above (e ∷ f ∷ es) = (above e ≡ true → above f ≡ true) × Rises above (f ∷ es)

all_behind : {E : Type 0} (above : E → Bool) (e : E) (es : List E) → Rises above (e ∷ es) → above e ≡ true → AllByRecursion (λ (x : E). above x ≡ true) (e ∷ es)
all_behind above e [] rises holds = (holds, tt)
all_behind above e (f ∷ es) rises holds = (holds, all_behind above f es rises.1 (rises.0 holds))

all_at : {E : Type 0} (P : E → Type 0) (es : List E) (i : ℕ) (d : E) → AllByRecursion P es → i < length es → P (get_or es i d)
all_at P [] i d all lt = absurd (omega (arith, lt))
all_at P (e ∷ es) zero d all lt = all.0
all_at P (e ∷ es) (suc i) d all lt = all_at P es i d all.1 (omega (arith, lt))

-- it holds at this place, and so behind it
pub holds_behind : {E : Type 0} (above : E → Bool) (es : List E) (i : ℕ) (e : E) → Rises above es → i < length es → e ≡ get_or es i e → above e ≡ true → AllByRecursion (λ (x : E). above x ≡ true) (drop i es)
holds_behind above [] i e rises lt is holds = absurd (omega (arith, lt))
holds_behind above (x ∷ es) zero e rises lt is holds = all_behind above x es rises (ap above (sym is) ∙ holds)
holds_behind above (x ∷ []) (suc i) e rises lt is holds = absurd (omega (arith, lt))
holds_behind above (x ∷ y ∷ es) (suc i) e rises lt is holds = holds_behind above (y ∷ es) i e rises.1 (omega (arith, lt)) is holds

-- it does not hold at this place, and so not at the first
first_not : {E : Type 0} (above : E → Bool) (x : E) (es : List E) (i : ℕ) (e : E) → Rises above (x ∷ es) → i < length (x ∷ es) → e ≡ get_or (x ∷ es) i e → above e ≡ false → above x ≡ false
first_not {E = E} above x es i e rises lt is isnt = elim (cases_Bool (above x)) [
  | inl holds ↦ absurd (both_ways (above e) isnt (ap above is ∙ all_at (λ (y : E). above y ≡ true) (x ∷ es) i e (all_behind above x es rises holds) lt))
  | inr other ↦ other
]

one_more : (i : ℕ) → suc i + 1 ≡ suc (i + 1)
one_more i = omega arith

-- it does not hold at this place, and so not before it
pub not_upto : {E : Type 0} (above : E → Bool) (es : List E) (i : ℕ) (e : E) → Rises above es → i < length es → e ≡ get_or es i e → above e ≡ false → AllByRecursion (λ (x : E). above x ≡ false) (take (i + 1) es)
not_upto above [] i e rises lt is isnt = absurd (omega (arith, lt))
not_upto above (x ∷ es) zero e rises lt is isnt = (ap above (sym is) ∙ isnt, tt)
not_upto above (x ∷ []) (suc i) e rises lt is isnt = absurd (omega (arith, lt))
not_upto {E = E} above (x ∷ y ∷ es) (suc i) e rises lt is isnt =
    subst (λ (n : ℕ). AllByRecursion (λ (z : E). above z ≡ false) (take n (x ∷ y ∷ es))) (sym (one_more i)) (
      first_not above x (y ∷ es) (suc i) e rises lt is isnt,
      not_upto above (y ∷ es) i e rises.1 (omega (arith, lt)) is isnt,
    )
