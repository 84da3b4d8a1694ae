-- The state words of a frame, below the last generation.
use Rattle.std.proofs.Common.{◌≡◌, ◌<◌, ◌+◌, ◌*◌, ◌^◌, ℕ, ap}
use Rattle.std.proofs.Math.Nat.{mod-eq_of_lt}
use Rattle.call_steps.specs.Tables.{empty, filled}

pub empty-is : (g : ℕ) → g < 2 ^ 62 → empty g ≡ 4 * g
empty-is g below = ap (λ n. 4 * n) (mod-eq_of_lt below)

pub filled-is : (g : ℕ) → g < 2 ^ 62 → filled g ≡ 4 * g + 1
filled-is g below = ap (λ n. 4 * n + 1) (mod-eq_of_lt below)
