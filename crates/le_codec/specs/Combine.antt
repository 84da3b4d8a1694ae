-- Fields made of fields.
use Rattle.std.specs.Prelude.{ℕ, zero, suc, List, [], ◌∷◌, ◌++◌, Option, Some}
use Rattle.le_codec.specs.Fields.{◌>>=◌}

-- one, and then one that may depend on it
unfoldable pub then_at : {A B : Type 0} → (List ℕ → Option (A × List ℕ)) → (A → List ℕ → Option (B × List ℕ)) → List ℕ → Option ((A × B) × List ℕ)
then_at f g bytes = do
  a ← f bytes
  b ← g a.0 a.1
  Some ((a.0, b.0), b.1)

-- so many of one kind
unfoldable pub many_at : {A : Type 0} → (List ℕ → Option (A × List ℕ)) → ℕ → List ℕ → Option (List A × List ℕ)
many_at f zero bytes = Some ([], bytes)
many_at f (suc n) bytes = do
  first ← f bytes
  others ← many_at f n first.1
  Some (first.0 ∷ others.0, others.1)

-- the same seen as another type
unfoldable pub as_at : {A B : Type 0} → (A → B) → (List ℕ → Option (A × List ℕ)) → List ℕ → Option (B × List ℕ)
as_at to f bytes = do
  a ← f bytes
  Some (to a.0, a.1)

-- what a value stands for, where it stands for anything
unfoldable pub try_at : {A B : Type 0} → (A → Option B) → (List ℕ → Option (A × List ℕ)) → List ℕ → Option (B × List ℕ)
try_at to f bytes = do
  a ← f bytes
  b ← to a.0
  Some (b, a.1)

-- so many, each read in the light of the one before
unfoldable pub chain_at : {A S : Type 0} → (S → List ℕ → Option (A × List ℕ)) → (A → S) → ℕ → S → List ℕ → Option (List A × List ℕ)
chain_at f next zero s bytes = Some ([], bytes)
chain_at f next (suc n) s bytes = do
  first ← f s bytes
  others ← chain_at f next n (next first.0) first.1
  Some (first.0 ∷ others.0, others.1)

-- each suits the one before
abbrev pub Chained : {A S : Type 0} → (S → A → Type 0) → (A → S) → S → List A → Type 0
Chained Suits next s [] = Unit {0}
Chained Suits next s (x ∷ xs) = Suits s x × Chained Suits next (next x) xs

-- what was read before, and what is still read
abbrev pub with_front : {A : Type 0} → List A → Option (List A × List ℕ) → Option (List A × List ℕ)
with_front front read = read >>= λ x. Some (front ++ x.0, x.1)
