-- Lanes of which no comparison holds, and bytes that are their own escapes.
use Rattle.std.proofs.Common.{◌≡◌, ◌≢◌, ◌∙◌, ℕ, zero, suc, ◌+◌, ◌*◌, ◌%◌, ◌/◌, ◌^◌, ◌<◌, ◌≤◌, Bool, true, false, cond, eqb, ltb, List, [], ◌∷◌, ◌++◌, map, length, take, drop, replicate, get_or, length-drop, refl, sym, ap, subst, arith, w8, eqb-true, ltb-false, drop-drop}
use Rattle.std.specs.List.{AllByRecursion}
use Rattle.std.specs.Simd.{first_chunks}
use Rattle.std.specs.Simd.Lanes.{zip2, mask_l, top}
use Rattle.std.proofs.lemmas.Bool.{eqb-false, le-leb, ne_eqb}
use Rattle.std.proofs.lemmas.Simd.{bitmask_splat, tops_compared, zip2_splat_left, mask_l-mod}
use Rattle.std.proofs.lemmas.List.{append_assoc, append-nil, length-map, take_more}
use Rattle.item.specs.Escapes.{escape_byte, escaped}

-- ---- no lane

none_set : (t : ℕ → Bool) (xs : List ℕ) → mask_l (map t xs) ≡ 0 → AllByRecursion (λ x. t x ≡ false) xs
none_set t [] none = tt
none_set t (x ∷ xs) none = (first (t x) refl, none_set t xs (omega (arith, none)))
  where
    first : (b : Bool) → t x ≡ b → t x ≡ false
    first true is = absurd (let one : cond {A = ℕ} (t x) 1 0 ≡ 1 = ap (λ (c : Bool). cond {A = ℕ} c 1 0) is in omega (arith, one, none))
    first false is = is

all_by : (P Q : ℕ → Type 0) (xs : List ℕ) → ((x : ℕ) → P x → Q x) → AllByRecursion P xs → AllByRecursion Q xs
all_by P Q [] by all = tt
all_by P Q (x ∷ xs) by all = (by x all.0, all_by P Q xs by all.1)

pub none_below_of : (n : ℕ) → n ≤ 64 → (xs : List ℕ) (y : ℕ) → length xs ≡ n → eqb (mask_l (map (top 7) (zip2 (λ a b. cond (ltb a b) 255 0) xs (replicate n y))) % 2 ^ 64) 0 ≡ true → AllByRecursion (λ x. y ≤ x) xs
none_below_of n fits xs y long is = all_by (λ x. ltb x y ≡ false) (λ x. y ≤ x) xs (λ x f. omega (arith, ltb-false x y f)) (none_set (λ x. ltb x y) xs (sym (bitmask_splat w8 ltb xs n y long (omega (arith, fits))) ∙ eqb-true _ _ is))

pub none_is_of : (n : ℕ) → n ≤ 64 → (xs : List ℕ) (y : ℕ) → length xs ≡ n → eqb (mask_l (map (top 7) (zip2 (λ a b. cond (eqb a b) 255 0) xs (replicate n y))) % 2 ^ 64) 0 ≡ true → AllByRecursion (λ x. x ≢ y) xs
none_is_of n fits xs y long is = all_by (λ x. eqb x y ≡ false) (λ x. x ≢ y) xs (λ x f. eqb-false x y f) (none_set (λ x. eqb x y) xs (sym (bitmask_splat w8 eqb xs n y long (omega (arith, fits))) ∙ eqb-true _ _ is))

pub none_above_of : (n : ℕ) → n ≤ 64 → (xs : List ℕ) (y : ℕ) → length xs ≡ n → eqb (mask_l (map (top 7) (zip2 (λ a b. cond (ltb a b) 255 0) (replicate n y) xs)) % 2 ^ 64) 0 ≡ true → AllByRecursion (λ x. x ≤ y) xs
none_above_of n fits xs y long is = all_by (λ x. ltb y x ≡ false) (λ x. x ≤ y) xs (λ x f. omega (arith, ltb-false y x f)) (none_set (λ x. ltb y x) xs (sym same ∙ eqb-true _ _ is))
  where
    same : mask_l (map (top 7) (zip2 (λ a b. cond (ltb a b) 255 0) (replicate n y) xs)) % 2 ^ 64 ≡ mask_l (map (λ x. ltb y x) xs)
    same = ap (λ ms. mask_l ms % 2 ^ 64) (tops_compared w8 ltb (replicate n y) xs ∙ zip2_splat_left ltb y n xs long) ∙ mask_l-mod (map (λ x. ltb y x) xs) 64 (omega (arith, fits, length-map xs (λ x. ltb y x), long))

-- ---- their own escapes

pub plain_byte : (b : ℕ) → 32 ≤ b → b ≤ 126 → b ≢ 92 → escape_byte b ≡ b ∷ []
plain_byte b low high other = rw (ne_eqb b 92 other, le-leb 32 b low, le-leb b 126 high) refl

escaped_both : (xs ys : List ℕ) → escaped (xs ++ ys) ≡ escaped xs ++ escaped ys
escaped_both [] ys = refl
escaped_both (x ∷ xs) ys = ap (λ (l : List ℕ). escape_byte x ++ l) (escaped_both xs ys) ∙ sym (append_assoc (escape_byte x) (escaped xs) (escaped ys))

pub plain_bytes : (xs : List ℕ) → AllByRecursion (λ b. 32 ≤ b) xs → AllByRecursion (λ b. b ≤ 126) xs → AllByRecursion (λ b. b ≢ 92) xs → escaped xs ≡ xs
plain_bytes [] low high other = refl
plain_bytes (b ∷ xs) low high other = ap (λ (l : List ℕ). l ++ escaped xs) (plain_byte b low.0 high.0 other.0) ∙ ap (λ (l : List ℕ). b ∷ l) (plain_bytes xs low.1 high.1 other.1)

-- ---- one more, and one chunk more

pub byte_more : (xs : List ℕ) (i : ℕ) → i < length xs → escape_byte (get_or xs i 0) ≡ get_or xs i 0 ∷ [] → escaped (take i xs) ≡ take i xs → escaped (take (i + 1) xs) ≡ take (i + 1) xs
byte_more xs i less plain before =
    let b = get_or xs i 0 in
    let one : escaped (b ∷ []) ≡ b ∷ [] = append-nil (escape_byte b) ∙ plain in
    ap escaped (take_more xs i 0 less) ∙ (escaped_both (take i xs) (b ∷ []) ∙ (ap (λ (l : List ℕ). l ++ escaped (b ∷ [])) before ∙ (ap (λ (l : List ℕ). take i xs ++ l) one ∙ sym (take_more xs i 0 less))))

chunk_at : (k i : ℕ) (xs : List ℕ) → i < k → get_or (first_chunks 32 k xs) i [] ≡ take 32 (drop (32 * i) xs)
chunk_at zero i xs less = absurd (omega (arith, less))
chunk_at (suc k) zero xs less = refl
chunk_at (suc k) (suc i) xs less =
    let place : 32 + 32 * i ≡ 32 * suc i = omega arith in
    chunk_at k i (drop 32 xs) (omega (arith, less)) ∙ ap (take 32) (drop-drop (32 * i) 32 xs ∙ ap (λ (n : ℕ). drop n xs) place)

take_none : (k : ℕ) → take {A = ℕ} k [] ≡ []
take_none zero = refl
take_none (suc k) = refl

take_both : (n m : ℕ) (xs : List ℕ) → take (n + m) xs ≡ take n xs ++ take m (drop n xs)
take_both zero m xs = let none : 0 + m ≡ m = omega arith in ap (λ (k : ℕ). take k xs) none
take_both (suc n) m [] = take_none (suc n + m) ∙ sym (take_none m)
take_both (suc n) m (x ∷ xs) = let more : suc n + m ≡ suc (n + m) = omega arith in ap (λ (k : ℕ). take k (x ∷ xs)) more ∙ ap (λ (l : List ℕ). x ∷ l) (take_both n m xs)

pub chunk_more : (xs : List ℕ) (front i : ℕ) → front ≡ 32 * i → i < length xs / 32 → escaped (take front xs) ≡ take front xs → escaped (get_or (first_chunks 32 (length xs / 32) xs) i []) ≡ get_or (first_chunks 32 (length xs / 32) xs) i []
    → escaped (take (front + 32) xs) ≡ take (front + 32) xs
chunk_more xs front i place less before plain =
    let chunk = get_or (first_chunks 32 (length xs / 32) xs) i [] in
    let is : chunk ≡ take 32 (drop front xs) = chunk_at (length xs / 32) i xs less ∙ ap (λ (n : ℕ). take 32 (drop n xs)) (sym place) in
    let both : take (front + 32) xs ≡ take front xs ++ chunk = take_both front 32 xs ∙ ap (λ (l : List ℕ). take front xs ++ l) (sym is) in
    ap escaped both ∙ (escaped_both (take front xs) chunk ∙ (ap (λ (l : List ℕ). l ++ escaped chunk) before ∙ (ap (λ (l : List ℕ). take front xs ++ l) plain ∙ sym both)))

eight_at : (k i : ℕ) (xs : List ℕ) → i < k → get_or (first_chunks 8 k xs) i [] ≡ take 8 (drop (8 * i) xs)
eight_at zero i xs less = absurd (omega (arith, less))
eight_at (suc k) zero xs less = refl
eight_at (suc k) (suc i) xs less =
    let place : 8 + 8 * i ≡ 8 * suc i = omega arith in
    eight_at k i (drop 8 xs) (omega (arith, less)) ∙ ap (take 8) (drop-drop (8 * i) 8 xs ∙ ap (λ (n : ℕ). drop n xs) place)

pub eight_more : (xs : List ℕ) (front i : ℕ) → front ≡ 8 * i → i < length xs / 8 → escaped (take front xs) ≡ take front xs → escaped (get_or (first_chunks 8 (length xs / 8) xs) i []) ≡ get_or (first_chunks 8 (length xs / 8) xs) i []
    → escaped (take (front + 8) xs) ≡ take (front + 8) xs
eight_more xs front i place less before plain =
    let chunk = get_or (first_chunks 8 (length xs / 8) xs) i [] in
    let is : chunk ≡ take 8 (drop front xs) = eight_at (length xs / 8) i xs less ∙ ap (λ (n : ℕ). take 8 (drop n xs)) (sym place) in
    let both : take (front + 8) xs ≡ take front xs ++ chunk = take_both front 8 xs ∙ ap (λ (l : List ℕ). take front xs ++ l) (sym is) in
    ap escaped both ∙ (escaped_both (take front xs) chunk ∙ (ap (λ (l : List ℕ). l ++ escaped chunk) before ∙ (ap (λ (l : List ℕ). take front xs ++ l) plain ∙ sym both)))

-- behind those that are known

pub past_within : (xs rest : List ℕ) (known n : ℕ) → known ≤ length xs → rest ≡ drop known xs → n ≤ length rest → known + n ≤ length xs
past_within xs rest known n within is less = omega (arith, within, less, ap (λ (l : List ℕ). length l) is, length-drop known xs)

pub past_plain : (xs rest : List ℕ) (known n : ℕ) → escaped (take known xs) ≡ take known xs → rest ≡ drop known xs → escaped (take n rest) ≡ take n rest → escaped (take (known + n) xs) ≡ take (known + n) xs
past_plain xs rest known n before is plain =
    let more : escaped (take n (drop known xs)) ≡ take n (drop known xs) = subst (λ (l : List ℕ). escaped (take n l) ≡ take n l) is plain in
    ap escaped (take_both known n xs) ∙ (escaped_both (take known xs) (take n (drop known xs)) ∙ (ap (λ (l : List ℕ). l ++ escaped (take n (drop known xs))) before ∙ (ap (λ (l : List ℕ). take known xs ++ l) more ∙ sym (take_both known n xs))))
