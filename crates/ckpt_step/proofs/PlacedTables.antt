-- A table of a smaller number than the first one without a tree has a tree.
use Rattle.std.specs.Prelude.{◌≡◌, ℕ, zero, suc, ◌<◌, ◌≤◌, ◌+◌, List, [], ◌∷◌, length, Some, None, slice_get, refl}
use Rattle.std.proofs.Common.{sym, ◌∙◌, ap, subst, arith}
use Rattle.catalog.specs.Known.{NumbersAscend}
use Rattle.kv_model.specs.History.{Table}
use Rattle.ckpt_step.proofs.Members.{none_some, some_same}

past : {A : Type 0} (xs : List A) (i : ℕ) → slice_get xs i ≡ None → length xs ≤ i
past [] i none = omega arith
past (x ∷ xs) zero none = absurd (none_some (sym none))
past (x ∷ xs) (suc i) none = let rest = past xs i none in omega (arith, rest)

none_past : {A : Type 0} (xs : List A) (i : ℕ) → length xs ≤ i → slice_get xs i ≡ None
none_past [] i le = refl
none_past (x ∷ xs) zero le = absurd (omega (arith, le))
none_past (x ∷ xs) (suc i) le = none_past xs i (omega (arith, le))

from_low : (low : ℕ) (tables : List Table) (next i : ℕ) (t : Table) → NumbersAscend low tables next → slice_get tables i ≡ Some t → low ≤ t.number
from_low low [] next i t up at = absurd (none_some at)
from_low low (x ∷ tables) next zero t up at = subst (λ (y : Table). low ≤ y.number) (some_same at) up.0
from_low low (x ∷ tables) next (suc i) t up at = let first = up.0 in let rest = from_low (x.number + 1) tables next i t up.1 at in omega (arith, first, rest)

up_to : (low : ℕ) (tables : List Table) (next i j : ℕ) (a b : Table) → NumbersAscend low tables next → slice_get tables i ≡ Some a → slice_get tables j ≡ Some b → i ≤ j → a.number ≤ b.number
up_to low [] next i j a b up one two le = absurd (none_some one)
up_to low (x ∷ tables) next zero zero a b up one two le = let same = ap (λ (t : Table). t.number) (some_same (sym one ∙ two)) in omega (arith, same)
up_to low (x ∷ tables) next zero (suc j) a b up one two le = let same = ap (λ (t : Table). t.number) (some_same one) in let rest = from_low (x.number + 1) tables next j b up.1 two in omega (arith, same, rest)
up_to low (x ∷ tables) next (suc i) zero a b up one two le = absurd (omega (arith, le))
up_to low (x ∷ tables) next (suc i) (suc j) a b up one two le = up_to (x.number + 1) tables next i j a b up.1 one two (omega (arith, le))

module _ {A : Type 0} (known : List Table) (next : ℕ) (numbers : NumbersAscend 1 known next) (trees : List A) where
  -- where each has one
  pub all_placed : slice_get known (length trees) ≡ None → (i : ℕ) (t : Table) → slice_get known i ≡ Some t → slice_get trees i ≡ None → ⊥
  all_placed none i t at away =
      let far = past known (length trees) none in
      let le = past trees i away in
      none_some (sym (none_past known i (omega (arith, far, le))) ∙ at)

  -- or where its number is smaller
  pub smaller_placed : (first : Table) → slice_get known (length trees) ≡ Some first → (table : ℕ) → table < first.number → (i : ℕ) (t : Table) → slice_get known i ≡ Some t → table ≡ t.number → slice_get trees i ≡ None → ⊥
  smaller_placed first there table less i t at is away =
      let up = up_to 1 known next (length trees) i first t numbers there at (past trees i away) in
      omega (arith, less, is, up)
