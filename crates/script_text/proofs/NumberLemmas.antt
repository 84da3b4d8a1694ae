-- Stamps that fit their type.
use Rattle.std.proofs.Common.{◌≡◌, ◌^◌, ◌<◌, ◌≤◌, ℕ, refl, arith, lit<}
use Rattle.std.proofs.Math.Nat.{pow-le-pow_right}

-- a stamp of fifteen digits at most
pub below-60 : (stamp digits : ℕ) → stamp < 16 ^ digits → digits < 16 → stamp < 2 ^ 60
below-60 stamp digits small few =
    let more : 16 ^ digits ≤ 16 ^ 15 = pow-le-pow_right {n = 16} (lit< tt) {i = digits} {j = 15} (omega arith) in
    let most : 16 ^ 15 ≡ 2 ^ 60 = refl in
    omega arith
