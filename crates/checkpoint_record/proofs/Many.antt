-- A loop that reads so many of one kind.
use Rattle.std.proofs.Common.{◌≡◌, ℕ, ◌+◌, ◌-◌, ◌<◌, ◌≤◌, suc, List, [], ◌∷◌, ◌++◌, Option, Some, None, refl, sym, ap, ◌∙◌, append_assoc, arith}
use Rattle.std.proofs.lemmas.List.{append-nil}
use Rattle.le_codec.specs.Fields.{◌>>=◌}
use Rattle.le_codec.specs.Combine.{many_at, with_front}

regroup : {A : Type 0} (front : List A) (x : A) (read : Option (List A × List ℕ)) → with_front front (read >>= λ y. Some (x ∷ y.0, y.1)) ≡ with_front (front ++ x ∷ []) read
regroup {A = A} front x (Some y) = ap (λ (xs : List A). Some (xs, y.1)) (simp append_assoc)
regroup front x None = refl

pub goes_on : {A : Type 0} (f : List ℕ → Option (A × List ℕ)) (front : List A) (count i : ℕ) (bytes : List ℕ) (x : A) (after : List ℕ) (total : Option (List A × List ℕ)) → i < count → f bytes ≡ Some (x, after)
    → with_front front (many_at f (count - i) bytes) ≡ total → with_front (front ++ x ∷ []) (many_at f (count - (i + 1)) after) ≡ total
unfolding many_at
goes_on f front count i bytes x after total lt h so_far =
    let k : count - i ≡ suc (count - (i + 1)) = omega arith in
    let one : with_front front (many_at f (count - i) bytes) ≡ with_front (front ++ x ∷ []) (many_at f (count - (i + 1)) after) = rw (k, h) (regroup front x (many_at f (count - (i + 1)) after)) in
    sym one ∙ so_far

pub ends : {A : Type 0} (f : List ℕ → Option (A × List ℕ)) (front : List A) (count i : ℕ) (bytes : List ℕ) (total : Option (List A × List ℕ)) → i < count → f bytes ≡ None
    → with_front front (many_at f (count - i) bytes) ≡ total → total ≡ None
unfolding many_at
ends f front count i bytes total lt h so_far =
    let k : count - i ≡ suc (count - (i + 1)) = omega arith in
    let one : with_front front (many_at f (count - i) bytes) ≡ None = rw (k, h) refl in
    sym so_far ∙ one

pub is_done : {A : Type 0} (f : List ℕ → Option (A × List ℕ)) (front : List A) (count i : ℕ) (bytes : List ℕ) (total : Option (List A × List ℕ)) → count ≤ i
    → with_front front (many_at f (count - i) bytes) ≡ total → total ≡ Some (front, bytes)
unfolding many_at
is_done {A = A} f front count i bytes total le so_far =
    let k : count - i ≡ 0 = omega arith in
    let one : with_front front (many_at f (count - i) bytes) ≡ Some (front, bytes) = rw k (ap (λ (xs : List A). Some (xs, bytes)) (append-nil front)) in
    sym so_far ∙ one
