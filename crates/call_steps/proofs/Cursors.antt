-- A change of one cursor.
use Rattle.std.proofs.Common.{◌≡◌, ℕ, zero, suc, ◌<◌, ◌≤◌, List, [], ◌∷◌, length, get_or, set, refl, ap, arith}
use Rattle.call_steps.specs.declared.cursor.Cursor.{Cursor}
use Rattle.call_steps.specs.State.{changed_at}

pub changed_set : (i : ℕ) (change : Cursor → Cursor) (cursors : List Cursor) (k : Cursor) → i < length cursors → set cursors i (change (get_or cursors i k)) ≡ changed_at cursors i change
changed_set i change [] k lt = absurd (omega (arith, lt))
changed_set zero change (x ∷ xs) k lt = refl
changed_set (suc n) change (x ∷ xs) k lt = ap (λ (ys : List Cursor). x ∷ ys) (changed_set n change xs k (omega (arith, lt)))

pub changed_past : (i : ℕ) (change : Cursor → Cursor) (cursors : List Cursor) → length cursors ≤ i → cursors ≡ changed_at cursors i change
changed_past i change [] le = refl
changed_past zero change (x ∷ xs) le = absurd (omega (arith, le))
changed_past (suc n) change (x ∷ xs) le = ap (λ (ys : List Cursor). x ∷ ys) (changed_past n change xs (omega (arith, le)))
