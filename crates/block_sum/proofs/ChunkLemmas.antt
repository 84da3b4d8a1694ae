-- The sum of a chunk, from its bytes' plain sum and the sum of its bytes times their places, and
-- what it adds to the sum of a block.
use Rattle.std.proofs.Common.{◌≡◌, ℕ, ◌+◌, ◌*◌, ◌%◌, ◌/◌, ◌^◌, ◌<◌, ◌≤◌, zero, suc, List, [], ◌∷◌, length, take, drop, get_or, length-drop, drop-drop, sym, ◌∙◌, ap, ap₂, arith, mul-add, add-mul, mul_comm}
use Rattle.std.specs.Prelude.{replicate}
use Rattle.std.specs.Simd.Lanes.{sum_l, products, dots, fold_l}
use Rattle.std.specs.List.{range_with_len}
use Rattle.std.proofs.lemmas.Simd.{sum_dots, sum_by-ones}
use Rattle.std.proofs.lemmas.Nat.{mul-mod_second}
use Rattle.std.specs.Simd.{first_chunks}
use Rattle.block_sum.specs.Sum.{sum_from}
use Rattle.block_sum.proofs.SumLemmas.{sum_split}

-- each byte times its place
sum_placed : (i : ℕ) (xs : List ℕ) → sum_l (products xs (range_with_len (i + 1) (length xs))) ≡ sum_from i xs
sum_placed i [] = λ i. 0
sum_placed i (x ∷ xs) = ap₂ ◌+◌ (mul_comm x (i + 1)) (sum_placed (i + 1) xs)

-- with so many more bytes before them
sum_later : (i k : ℕ) (xs : List ℕ) → sum_from (i + k) xs ≡ i * sum_l xs + sum_from k xs
sum_later i k [] = omega arith
sum_later i k (x ∷ xs) =
    let place : i + (k + 1) ≡ i + k + 1 = omega arith in
    let rest : sum_from (i + k + 1) xs ≡ i * sum_l xs + sum_from (k + 1) xs = ap (λ (n : ℕ). sum_from n xs) (sym place) ∙ sum_later i (k + 1) xs in
    let first : (i + k + 1) * x ≡ i * x + (k + 1) * x = ap (λ (n : ℕ). n * x) (sym place) ∙ add-mul i (k + 1) x in
    omega (arith, rest, first, mul-add i x (sum_l xs))

-- a sum of lanes that wraps
abbrev wrapped : List ℕ → ℕ
wrapped xs = fold_l (λ s x. (s + x) % 2 ^ 32) 0 xs

wraps_from : (s : ℕ) (xs : List ℕ) → fold_l (λ s x. (s + x) % 2 ^ 32) s xs % 2 ^ 32 ≡ (s + sum_l xs) % 2 ^ 32
wraps_from s [] = omega arith
wraps_from s (x ∷ xs) = omega (arith, wraps_from ((s + x) % 2 ^ 32) xs)

wraps : (xs : List ℕ) → wrapped xs % 2 ^ 32 ≡ sum_l xs % 2 ^ 32
wraps xs = omega (arith, wraps_from 0 xs)

pub chunk_sums : (start : ℕ) (xs : List ℕ) → length xs ≡ 64 → (start * wrapped (dots xs (replicate 64 1)) % 2 ^ 32 + wrapped (dots xs (range_with_len 1 64))) % 2 ^ 32 ≡ sum_from start xs % 2 ^ 32
chunk_sums start xs long =
    let ones : List ℕ = replicate 64 1 in
    let places : List ℕ = range_with_len 1 64 in
    let plain : sum_l (dots xs ones) ≡ sum_l xs = (sum_dots 16 xs ones long (λ i. 64)).0 ∙ ap (λ (n : ℕ). sum_l (products xs (replicate n 1))) (sym long) ∙ sum_by-ones xs in
    let placed : sum_l (dots xs places) ≡ sum_from 0 xs = (sum_dots 16 xs places long (λ i. 64)).0 ∙ ap (λ (n : ℕ). sum_l (products xs (range_with_len 1 n))) (sym long) ∙ sum_placed 0 xs in
    let low : wrapped (dots xs ones) % 2 ^ 32 ≡ sum_l xs % 2 ^ 32 = wraps (dots xs ones) ∙ ap (λ (n : ℕ). n % 2 ^ 32) plain in
    let high : wrapped (dots xs places) % 2 ^ 32 ≡ sum_from 0 xs % 2 ^ 32 = wraps (dots xs places) ∙ ap (λ (n : ℕ). n % 2 ^ 32) placed in
    let before : start * wrapped (dots xs ones) % 2 ^ 32 ≡ start * sum_l xs % 2 ^ 32 = sym (mul-mod_second start (wrapped (dots xs ones)) (2 ^ 32)) ∙ ap (λ (n : ℕ). start * n % 2 ^ 32) low ∙ mul-mod_second start (sum_l xs) (2 ^ 32) in
    let same : start + 0 ≡ start = omega arith in
    let whole : sum_from start xs ≡ start * sum_l xs + sum_from 0 xs = ap (λ (n : ℕ). sum_from n xs) (sym same) ∙ sum_later start 0 xs in
    omega (arith, before, high, whole)

chunk_at : (k i : ℕ) (xs : List ℕ) → i < k → get_or (first_chunks 64 k xs) i [] ≡ take 64 (drop (64 * i) xs)
chunk_at zero i xs less = absurd (omega arith)
chunk_at (suc k) zero xs less = λ i. take 64 xs
chunk_at (suc k) (suc i) xs less =
    let place : 64 + 64 * i ≡ 64 * suc i = omega arith in
    chunk_at k i (drop 64 xs) (omega arith) ∙ ap (take 64) (drop-drop (64 * i) 64 xs ∙ ap (λ (n : ℕ). drop n xs) place)

-- the bytes from a chunk on
pub sum_on : (start i : ℕ) (xs : List ℕ) → start ≡ 64 * i → i < length xs / 64 → sum_from start (drop start xs) ≡ sum_from start (get_or (first_chunks 64 (length xs / 64) xs) i []) + sum_from (start + 64) (drop (start + 64) xs)
sum_on start i xs place less =
    let chunk : get_or (first_chunks 64 (length xs / 64) xs) i [] ≡ take 64 (drop start xs) = chunk_at (length xs / 64) i xs less ∙ ap (λ (n : ℕ). take 64 (drop n xs)) (sym place) in
    let long : 64 ≤ length (drop start xs) = omega (arith, length-drop start xs) in
    sum_split start 64 (drop start xs) long ∙ ap₂ ◌+◌ (ap (λ (l : List ℕ). sum_from start l) (sym chunk)) (ap (λ (l : List ℕ). sum_from (start + 64) l) (drop-drop 64 start xs))
