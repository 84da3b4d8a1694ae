-- The final zero byte of an item.
use Rattle.std.proofs.Common.{◌≡◌, ◌++◌, ℕ, List, [], ◌∷◌, refl, ap}
use Rattle.std.proofs.lemmas.Bool.{ne_eqb}
use Rattle.item_forms.specs.Forms.{without_zero}

-- a final zero byte goes
pub zero-off : (front : List ℕ) → without_zero (front ++ 0 ∷ []) ≡ front
zero-off [] = refl
zero-off (b ∷ []) = refl
zero-off (b ∷ (c ∷ rest)) = ap (λ (l : List ℕ). b ∷ l) (zero-off (c ∷ rest))

-- another stays
pub other-on : (front : List ℕ) (x : ℕ) → (x ≡ 0 → ⊥) → without_zero (front ++ x ∷ []) ≡ front ++ x ∷ []
other-on [] x other = rw (ne_eqb x 0 other) refl
other-on (b ∷ []) x other = ap (λ (l : List ℕ). b ∷ l) (other-on [] x other)
other-on (b ∷ (c ∷ rest)) x other = ap (λ (l : List ℕ). b ∷ l) (other-on (c ∷ rest) x other)
