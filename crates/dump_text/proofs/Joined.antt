-- Parts of a text, one written behind the other.
use Rattle.std.proofs.Common.{◌≡◌, ℕ, List, [], ◌∷◌, ◌++◌, append_assoc}

pub joined-4 : (o a b c d : List ℕ) → (((o ++ a) ++ b) ++ c) ++ d ≡ o ++ (((a ++ b) ++ c) ++ d)
joined-4 o a b c d = simp append_assoc

pub joined-7 : (a f b n g d : List ℕ) → (((((a ++ f) ++ b) ++ n) ++ 10 ∷ []) ++ g) ++ d ≡ a ++ (f ++ (b ++ (n ++ 10 ∷ (g ++ d))))
joined-7 a f b n g d = simp append_assoc
