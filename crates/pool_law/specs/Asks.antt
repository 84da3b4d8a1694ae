-- What a call on a further word asks of the law.
use Rattle.std.specs.Prelude.{◌≡◌, ℕ, ◌<◌, ◌^◌}
use Rattle.pool_law.specs.Whole.{Noted}

module _ {N : Type 0} (finds : Noted N → ℕ → ℕ → Type 0) (turns : Noted N → ℕ → ℕ → ℕ → N → Type 0) (u : Noted N) where
  -- whatever the seat finds in the word i, it may turn it to what `to` gives
  abbrev pub MayTurn : ℕ → (ℕ → ℕ) → Type 0
  MayTurn i to = (r : ℕ) → r < 2 ^ 64 → finds u i r → (k : N) × turns u i r (to r) k

  -- where the seat finds m in the word i, it may turn it to n
  abbrev pub MayGo : ℕ → ℕ → ℕ → Type 0
  MayGo i m n = finds u i m → (k : N) × turns u i m n k

  -- the seat finds nothing but m in the word i, and may turn it to n
  abbrev pub FindsAndMayGo : ℕ → ℕ → ℕ → Type 0
  FindsAndMayGo i m n = (r : ℕ) → r < 2 ^ 64 → finds u i r → (r ≡ m) × ((k : N) × turns u i m n k)
