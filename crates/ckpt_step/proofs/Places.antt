-- The trees that are told take the places of those of before.
use Rattle.std.proofs.Common.{◌≡◌, ◌∙◌, ◌++◌, ◌<◌, ◌≤◌, [], ◌∷◌, List, Option, Some, None, ℕ, zero, suc, length, drop, take, ap, sym, refl, arith, get_or, inl, inr, slice_get, slice_set}
use Rattle.std.proofs.lemmas.List.{append-nil, append_assoc, length-append, take-append-drop}
use Rattle.std.proofs.lemmas.Option.{slice_get_cases}
use Rattle.tree_open.specs.declared.place.TreePlace.{TreePlace}
use Rattle.ckpt_step.specs.Trees.{AreKept, placed_by}
use Rattle.ckpt_step.proofs.Told.{placed_length, told_none, told_some}

-- ---- lists

drop_here : {A : Type 0} (xs : List A) (n : ℕ) (x : A) → slice_get xs n ≡ Some x → drop n xs ≡ x ∷ drop (suc n) xs
drop_here [] n x at = absurd cc
drop_here {A} (y ∷ xs) zero x at = ap (λ (o : Option A). opened o) at
  where
    opened : Option A → List A
    opened None = []
    opened (Some z) = z ∷ xs
drop_here (y ∷ xs) (suc n) x at = drop_here xs n x at

drop_past : {A : Type 0} (xs : List A) (n : ℕ) → length xs ≤ n → drop n xs ≡ []
drop_past [] zero past = refl
drop_past [] (suc n) past = refl
drop_past (y ∷ xs) zero past = absurd (omega (arith, past))
drop_past (y ∷ xs) (suc n) past = drop_past xs n (omega (arith, past))

set_here : {A : Type 0} (xs ys : List A) (y x : A) → slice_set (xs ++ y ∷ ys) (length xs) x ≡ xs ++ x ∷ ys
set_here [] ys y x = refl
set_here {A} (z ∷ xs) ys y x = ap (λ (l : List A). z ∷ l) (set_here xs ys y x)

pub length_more : {A : Type 0} (xs : List A) (x : A) → length (xs ++ x ∷ []) ≡ suc (length xs)
length_more [] x = refl
length_more (y ∷ xs) x = ap suc (length_more xs x)

pub left_here : {A : Type 0} (all front : List A) (x : A) → front ≡ take (length front) all → length front < length all → x ≡ get_or all (length front) x → all ≡ front ++ x ∷ drop (suc (length front)) all
left_here {A} all front x is lt at = sym (take-append-drop (length front) all) ∙ (ap (λ (l : List A). l ++ drop (length front) all) (sym is) ∙ ap (λ (l : List A). front ++ l) (rest all (length front) x lt at))
  where
    rest : (xs : List A) (n : ℕ) (y : A) → n < length xs → y ≡ get_or xs n y → drop n xs ≡ y ∷ drop (suc n) xs
    rest [] n y lt at = absurd (omega (arith, lt))
    rest (z ∷ xs) zero y lt at = ap (λ (w : A). w ∷ xs) (sym at)
    rest (z ∷ xs) (suc n) y lt at = rest xs n y (omega (arith, lt)) at

-- ---- of those that are told some stood before

pub kept_front : (was : List TreePlace) (front rest : List (Option TreePlace)) → AreKept was (front ++ rest) → AreKept was front
kept_front [] [] rest kept = tt
kept_front (w ∷ was) [] rest kept = tt
kept_front [] (None ∷ front) rest kept = absurd kept
kept_front [] (Some p ∷ front) rest kept = kept_front [] front rest kept
kept_front (w ∷ was) (None ∷ front) rest kept = kept_front was front rest kept
kept_front (w ∷ was) (Some p ∷ front) rest kept = kept_front was front rest kept

pub kept_here : (was : List TreePlace) (front rest : List (Option TreePlace)) → AreKept was (front ++ None ∷ rest) → (w : TreePlace) × (slice_get was (length front) ≡ Some w)
kept_here [] [] rest kept = absurd kept
kept_here (w ∷ was) [] rest kept = (w, refl)
kept_here [] (None ∷ front) rest kept = absurd kept
kept_here [] (Some p ∷ front) rest kept = absurd (nothing front rest kept)
  where
    nothing : (front rest : List (Option TreePlace)) → AreKept [] (front ++ None ∷ rest) → ⊥
    nothing [] rest kept = kept
    nothing (None ∷ front) rest kept = kept
    nothing (Some p ∷ front) rest kept = nothing front rest kept
kept_here (w ∷ was) (None ∷ front) rest kept = kept_here was front rest kept
kept_here (w ∷ was) (Some p ∷ front) rest kept = kept_here was front rest kept

-- ---- one place after the other

-- once the first are put
abbrev pub half_placed : List TreePlace → List (Option TreePlace) → List TreePlace
half_placed was front = placed_by was front ++ drop (length front) was

more_kept : (was : List TreePlace) (front : List (Option TreePlace)) (w : TreePlace) → slice_get was (length front) ≡ Some w → half_placed was front ≡ half_placed was (front ++ None ∷ [])
more_kept was front w at =
    ap (λ (l : List TreePlace). placed_by was front ++ l) (drop_here was (length front) w at)
    ∙ (sym (append_assoc (placed_by was front) (w ∷ []) (drop (suc (length front)) was))
    ∙ (ap (λ (l : List TreePlace). l ++ drop (suc (length front)) was) (sym (told_none was front w at))
    ∙ ap (λ (n : ℕ). placed_by was (front ++ None ∷ []) ++ drop n was) (sym (length_more front None))))

told_ends : (was : List TreePlace) (front : List (Option TreePlace)) (p : TreePlace) → half_placed was (front ++ Some p ∷ []) ≡ placed_by was front ++ p ∷ drop (suc (length front)) was
told_ends was front p =
    ap (λ (n : ℕ). placed_by was (front ++ Some p ∷ []) ++ drop n was) (length_more front (Some p))
    ∙ (ap (λ (l : List TreePlace). l ++ drop (suc (length front)) was) (told_some was front p)
    ∙ append_assoc (placed_by was front) (p ∷ []) (drop (suc (length front)) was))

pub put_kept : (was : List TreePlace) (front rest : List (Option TreePlace)) (items : List TreePlace) → AreKept was (front ++ None ∷ rest) → items ≡ half_placed was front → items ≡ half_placed was (front ++ None ∷ [])
put_kept was front rest items kept is = let here = kept_here was front rest kept in is ∙ more_kept was front here.0 here.1

pub put_told : (was : List TreePlace) (front rest : List (Option TreePlace)) (p : TreePlace) (items items' : List TreePlace) → AreKept was (front ++ Some p ∷ rest) → items ≡ half_placed was front
    → (length front < length items → items' ≡ slice_set items (length front) p) → (length front ≡ length items → items' ≡ items ++ p ∷ []) → items' ≡ half_placed was (front ++ Some p ∷ [])
put_told was front rest p items items' kept is there behind = elim (slice_get_cases was (length front)).1 [
  | inl (w, lt, at, or) ↦ (
      let split : items ≡ placed_by was front ++ w ∷ drop (suc (length front)) was = is ∙ ap (λ (l : List TreePlace). placed_by was front ++ l) (drop_here was (length front) w at) in
      let long = ap (λ (l : List TreePlace). length l) split ∙ length-append (placed_by was front) (w ∷ drop (suc (length front)) was) in
      there (omega (arith, long, placed))
      ∙ (ap (λ (l : List TreePlace). slice_set l (length front) p) split
      ∙ (ap (λ (n : ℕ). slice_set (placed_by was front ++ w ∷ drop (suc (length front)) was) n p) (sym placed)
      ∙ (set_here (placed_by was front) (drop (suc (length front)) was) w p
      ∙ sym (told_ends was front p)))))
  | inr (past, none) ↦ (
      let ended : items ≡ placed_by was front = is ∙ (ap (λ (l : List TreePlace). placed_by was front ++ l) (drop_past was (length front) past) ∙ append-nil (placed_by was front)) in
      behind (sym placed ∙ ap (λ (l : List TreePlace). length l) (sym ended))
      ∙ (ap (λ (l : List TreePlace). l ++ p ∷ []) ended
      ∙ (ap (λ (l : List TreePlace). placed_by was front ++ p ∷ l) (sym (drop_past was (suc (length front)) (omega (arith, past))))
      ∙ sym (told_ends was front p))))
]
  where
    placed : length (placed_by was front) ≡ length front
    placed = placed_length was front (kept_front was front (Some p ∷ rest) kept)

-- all are put
pub put_all : (was : List TreePlace) (told : List (Option TreePlace)) → length was ≤ length told → half_placed was told ≡ placed_by was told
put_all was told few = ap (λ (l : List TreePlace). placed_by was told ++ l) (drop_past was (length told) few) ∙ append-nil (placed_by was told)

-- the next is at its place, or behind the others
pub put_within : (was : List TreePlace) (front rest : List (Option TreePlace)) (items : List TreePlace) → AreKept was (front ++ rest) → items ≡ half_placed was front → length front ≤ length items
put_within was front rest items kept is = omega (arith, ap (λ (l : List TreePlace). length l) is, length-append (placed_by was front) (drop (length front) was), placed_length was front (kept_front was front rest kept))
