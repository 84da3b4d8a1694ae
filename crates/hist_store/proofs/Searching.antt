-- Searches of lists, from the front.
use Rattle.std.proofs.Common.{◌≡◌, ◌<◌, ◌+◌, ℕ, zero, suc, refl, ap, sym, ◌∙◌, Bool, true, false, List, [], ◌∷◌, length, take, get_or, below_more, arith}
use Rattle.std.specs.Prelude.{find, Some, None}
use Rattle.std.proofs.lemmas.List.{get_or_read}
use Rattle.kv_model.specs.History.{down_to}

-- none of the first i passes
abbrev pub NoneBefore : {A : Type 0} → (A → Bool) → List A → ℕ → Type 0
NoneBefore {A} p xs i = (k : ℕ) → k < i → (d : A) → p (get_or xs k d) ≡ false

pub later : {A : Type 0} (p : A → Bool) (x : A) (xs : List A) (i : ℕ) → NoneBefore p (x ∷ xs) (suc i) → NoneBefore p xs i
later p x xs i none k lt d = none (suc k) (omega arith) d

pub find-here : {A : Type 0} (p : A → Bool) (xs : List A) (i : ℕ) (x : A) → i < length xs → NoneBefore p xs i → x ≡ get_or xs i x → p x ≡ true → find p xs ≡ Some x
find-here p [] i x lt none e is = absurd (omega arith)
find-here p (y ∷ ys) zero x lt none e is = rw (ap p (sym e) ∙ is) (ap Some (sym e))
find-here p (y ∷ ys) (suc i) x lt none e is = rw (none 0 (omega arith) x) (find-here p ys i x (omega arith) (later p y ys i none) e is)

pub find-nowhere : {A : Type 0} (p : A → Bool) (xs : List A) → NoneBefore p xs (length xs) → find p xs ≡ None
find-nowhere p [] none = refl
find-nowhere p (y ∷ ys) none = rw (none 0 (omega arith) y) (find-nowhere p ys (later p y ys (length ys) none))

down-at : {A : Type 0} (p : A → Bool) (xs : List A) (i : ℕ) (x : A) → i < length xs → NoneBefore p xs i → x ≡ get_or xs i x → p x ≡ true → take (suc i) xs ≡ down_to p xs
down-at p [] i x lt none e is = absurd (omega arith)
down-at p (y ∷ ys) zero x lt none e is = rw (ap p (sym e) ∙ is) refl
down-at p (y ∷ ys) (suc i) x lt none e is = rw (none 0 (omega arith) x) (ap (λ l. y ∷ l) (down-at p ys i x (omega arith) (later p y ys i none) e is))

pub down-here : {A : Type 0} (p : A → Bool) (xs : List A) (i : ℕ) (x : A) → i < length xs → NoneBefore p xs i → x ≡ get_or xs i x → p x ≡ true → take (i + 1) xs ≡ down_to p xs
down-here p xs i x lt none e is = let n : i + 1 ≡ suc i = omega arith in rw n (down-at p xs i x lt none e is)

pub down-all : {A : Type 0} (p : A → Bool) (xs : List A) → NoneBefore p xs (length xs) → take (length xs) xs ≡ down_to p xs
down-all p [] none = refl
down-all p (y ∷ ys) none = rw (none 0 (omega arith) y) (ap (λ l. y ∷ l) (down-all p ys (later p y ys (length ys) none)))

-- one more that does not pass
pub none-more : {A : Type 0} (p : A → Bool) (xs : List A) (i : ℕ) (x : A) → i < length xs → NoneBefore p xs i → x ≡ get_or xs i x → p x ≡ false → NoneBefore p xs (i + 1)
none-more p xs i x lt none e isnt = below_more _ _ none (λ d. ap p (sym (get_or_read xs i x lt e d)) ∙ isnt)
