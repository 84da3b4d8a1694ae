-- Facts of each member of a list, and members by place.
use Rattle.std.specs.Prelude.{◌≡◌, ℕ, zero, suc, ◌+◌, ◌<◌, ◌≤◌, List, [], ◌∷◌, ◌++◌, length, take, drop, Some, None, refl, slice_get}
use Rattle.std.specs.List.{AllByRecursion}
use Rattle.std.proofs.Common.{sym, ap, subst, arith, get_or}
use Rattle.row_page.specs.Rows.{Row}
use Rattle.reconcile.specs.declared.image.Image.{Image}
use Rattle.reconcile.specs.Images.{SpellsRows}
use Rattle.tree_write.specs.Steps.{AreSpelled, image_keys, key_at, part_keys}

pub all_both : {A : Type 0} (P : A → Type 0) (xs ys : List A) → AllByRecursion P xs → AllByRecursion P ys → AllByRecursion P (xs ++ ys)
all_both P [] ys all more = more
all_both P (x ∷ xs) ys all more = (all.0, all_both P xs ys all.1 more)

pub all_map : {A : Type 0} (P Q : A → Type 0) (xs : List A) → ((x : A) → P x → Q x) → AllByRecursion P xs → AllByRecursion Q xs
all_map P Q [] each all = tt
all_map P Q (x ∷ xs) each all = (each x all.0, all_map P Q xs each all.1)

-- two facts of each member give a third
pub all_zip : {A : Type 0} (P Q R : A → Type 0) (xs : List A) → ((x : A) → P x → Q x → R x) → AllByRecursion P xs → AllByRecursion Q xs → AllByRecursion R xs
all_zip P Q R [] each all also = tt
all_zip P Q R (x ∷ xs) each all also = (each x all.0 also.0, all_zip P Q R xs each all.1 also.1)

some_same : {A : Type 0} {x y : A} → Some x ≡ Some y → x ≡ y
some_same same = cc

none_some : {A : Type 0} {x : A} → None ≡ Some x → ⊥
none_some same = cc

pub drop_at : {A : Type 0} (l : List A) (i : ℕ) (x : A) → slice_get l i ≡ Some x → drop i l ≡ x ∷ drop (suc i) l
drop_at [] i x at = absurd (none_some at)
drop_at (y ∷ l) zero x at = ap (λ z. z ∷ l) (some_same at)
drop_at (y ∷ l) (suc i) x at = drop_at l i x at

pub drop_none : {A : Type 0} (l : List A) (i : ℕ) → length l ≤ i → drop i l ≡ []
drop_none [] zero few = refl
drop_none [] (suc i) few = refl
drop_none (x ∷ l) zero few = absurd (omega (arith, few))
drop_none (x ∷ l) (suc i) few = drop_none l i (omega (arith, few))

pub get_some : {A : Type 0} (l : List A) (i : ℕ) (x : A) → i < length l → x ≡ get_or l i x → slice_get l i ≡ Some x
get_some [] i x lt is = absurd (omega (arith, lt))
get_some {A} (y ∷ l) zero x lt is = ap (λ (z : A). Some z) (sym is)
get_some (y ∷ l) (suc i) x lt is = get_some l i x (omega (arith, lt)) is

pub spelled_at : (images : List Image) (leaves : List (List Row)) (i : ℕ) (image : Image) → AreSpelled images leaves → slice_get images i ≡ Some image → (rows : List Row) × SpellsRows image rows
spelled_at [] leaves i image spelled at = absurd (none_some at)
spelled_at (x ∷ images) [] i image spelled at = absurd spelled
spelled_at (x ∷ images) (rows ∷ leaves) zero image spelled at = (rows, subst (λ (y : Image). SpellsRows y rows) (some_same at) spelled.0)
spelled_at (x ∷ images) (rows ∷ leaves) (suc i) image spelled at = spelled_at images leaves i image spelled.1 at

-- the keys, with one more
pub keys_more : (low : List ℕ) (images : List Image) (i : ℕ) (image : Image) → slice_get images i ≡ Some image → take (i + 1) (part_keys low images) ≡ take i (part_keys low images) ++ key_at low i image ∷ []
keys_more low [] i image at = absurd (none_some at)
keys_more low (x ∷ images) zero image at = refl
keys_more low (x ∷ images) (suc i) image at = subst (λ (k : ℕ). take k (part_keys low (x ∷ images)) ≡ take (suc i) (part_keys low (x ∷ images)) ++ image.low ∷ []) two (ap (λ (l : List (List ℕ)). low ∷ l) (rest images i at))
  where
    two : suc (i + 1) ≡ suc i + 1
    two = omega arith

    again : (k : ℕ) → suc (k + 1) ≡ suc k + 1
    again k = omega arith

    rest : (images : List Image) (i : ℕ) → slice_get images i ≡ Some image → take (i + 1) (image_keys images) ≡ take i (image_keys images) ++ image.low ∷ []
    rest [] i at = absurd (none_some at)
    rest (y ∷ images) zero at = ap (λ (z : Image). z.low ∷ []) (some_same at)
    rest (y ∷ images) (suc i) at = subst (λ (k : ℕ). take k (image_keys (y ∷ images)) ≡ take (suc i) (image_keys (y ∷ images)) ++ image.low ∷ []) (again i) (ap (λ (l : List (List ℕ)). y.low ∷ l) (rest images i at))
