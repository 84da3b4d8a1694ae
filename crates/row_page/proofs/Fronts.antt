-- A front of some bytes, where a writer stopped.
use Rattle.std.proofs.Common.{◌≡◌, ℕ, List, ◌++◌, length, take, refl, sym, ap, ◌∙◌}
use Rattle.std.proofs.lemmas.List.{take_at}

pub front_written : (front rest whole old new : List ℕ) → whole ≡ front ++ rest → new ≡ old ++ front → (count : ℕ) × (new ≡ old ++ take count whole)
front_written front rest whole old new parts is = (length front, is ∙ ap (λ (l : List ℕ). old ++ l) (sym (ap (take (length front)) parts ∙ take_at front rest (length front) refl)))
