-- What a pin asks of the law of the pieces.
use Rattle.std.specs.Prelude.{ℕ}
use Rattle.pool_law.specs.Asks.{MayTurn}
use Rattle.pool_law.specs.Whole.{Noted, noted}
use Rattle.hazard_law.specs.Words.{naming}

module _ {N : Type 0} (finds : Noted N → ℕ → ℕ → Type 0) (turns : Noted N → ℕ → ℕ → ℕ → N → Type 0) (u : Noted N) where
  -- the seat may name the frame f in the word i, then read the state word f, and then let the word i name nothing
  pub record MayPin (i f : ℕ) : Type 0 where
    pub publish : MayTurn finds turns u i (λ r. naming f)
    pub validate : (m : ℕ) (k : N) → turns u i m (naming f) k → MayTurn finds turns (noted k u.held) f (λ r. r)
    pub clear : (m r : ℕ) (k l : N) → turns u i m (naming f) k → turns (noted k u.held) f r r l
        → MayTurn finds turns (noted l u.held) i (λ r. 0)
