-- Facts of each member of a list.
use Rattle.std.specs.Prelude.{◌≡◌, ℕ, zero, suc, ◌+◌, List, [], ◌∷◌, ◌++◌}
use Rattle.std.specs.List.{AllByRecursion, repeat}
use Rattle.std.proofs.Common.{sym, ◌∙◌, ap, arith, append_assoc}
use Rattle.std.proofs.lemmas.List.{append-nil}

pub all_front : {A : Type 0} (P : A → Type 0) (xs ys : List A) → AllByRecursion P (xs ++ ys) → AllByRecursion P xs
all_front P [] ys all = tt
all_front P (x ∷ xs) ys all = (all.0, all_front P xs ys all.1)

pub all_back : {A : Type 0} (P : A → Type 0) (xs ys : List A) → AllByRecursion P (xs ++ ys) → AllByRecursion P ys
all_back P [] ys all = all
all_back P (x ∷ xs) ys all = all_back P xs ys all.1

pub all_both : {A : Type 0} (P : A → Type 0) (xs ys : List A) → AllByRecursion P xs → AllByRecursion P ys → AllByRecursion P (xs ++ ys)
all_both P [] ys all more = more
all_both P (x ∷ xs) ys all more = (all.0, all_both P xs ys all.1 more)

pub all_map : {A : Type 0} (P Q : A → Type 0) (xs : List A) → ((x : A) → P x → Q x) → AllByRecursion P xs → AllByRecursion Q xs
all_map P Q [] each all = tt
all_map P Q (x ∷ xs) each all = (each x all.0, all_map P Q xs each all.1)

-- two facts of each member give a third
pub all_zip : {A : Type 0} (P Q R : A → Type 0) (xs : List A) → ((x : A) → P x → Q x → R x) → AllByRecursion P xs → AllByRecursion Q xs → AllByRecursion R xs
all_zip P Q R [] each all also = tt
all_zip P Q R (x ∷ xs) each all also = (each x all.0 also.0, all_zip P Q R xs each all.1 also.1)

pub repeat_more : (n : ℕ) (xs : List ℕ) → repeat n xs ++ xs ≡ repeat (suc n) xs
repeat_more zero xs = sym (append-nil xs)
repeat_more (suc n) xs = append_assoc xs (repeat n xs) xs ∙ ap (λ (l : List ℕ). xs ++ l) (repeat_more n xs)

pub repeat_both : (n k : ℕ) (xs : List ℕ) → repeat n xs ++ repeat k xs ≡ repeat (n + k) xs
repeat_both zero k xs = ap (λ (m : ℕ). repeat m xs) (omega arith)
repeat_both (suc n) k xs =
    append_assoc xs (repeat n xs) (repeat k xs) ∙ (ap (λ (l : List ℕ). xs ++ l) (repeat_both n k xs) ∙ (let one : suc (n + k) ≡ suc n + k = omega arith in ap (λ (m : ℕ). repeat m xs) one))
