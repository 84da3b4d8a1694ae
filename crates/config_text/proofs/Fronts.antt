-- The longest front of a text whose bytes pass a test.
use Rattle.std.proofs.Common.{◌≡◌, ◌+◌, ◌<◌, ◌≤◌, ℕ, suc, List, [], ◌∷◌, ◌++◌, length, take, drop, refl, sym, subst, inl, inr, get_or, arith}
use Rattle.std.specs.Prelude.{Bool, true, false, if◌then◌else◌}
use Rattle.std.specs.List.{list_all, prefix_len}
use Rattle.std.proofs.lemmas.Bool.{cases_Bool, and_parts}
use Rattle.std.proofs.lemmas.List.{take_at, drop_at}
use Rattle.std.proofs.lemmas.List.Sums.{prefix_len-drop_yes, prefix_len-drop_no, prefix_len-drop_all}

pub front-more : (p : ℕ → Bool) (text : List ℕ) (i : ℕ) → i < length text → p (get_or text i 0) ≡ true → prefix_len p text ≡ i + prefix_len p (drop i text) → prefix_len p text ≡ (i + 1) + prefix_len p (drop (i + 1) text)
front-more p text i inside passes before = let e = prefix_len-drop_yes p text i 0 inside passes in omega (arith, e, before)

pub front-ends : (p : ℕ → Bool) (text : List ℕ) (i : ℕ) → i < length text → p (get_or text i 0) ≡ false → prefix_len p text ≡ i + prefix_len p (drop i text) → i ≡ prefix_len p text
front-ends p text i inside fails before = let e = prefix_len-drop_no p text i 0 inside fails in omega (arith, e, before)

pub front-whole : (p : ℕ → Bool) (text : List ℕ) (i : ℕ) → length text ≤ i → prefix_len p text ≡ i + prefix_len p (drop i text) → i ≡ prefix_len p text
front-whole p text i past before = let e = prefix_len-drop_all p text i past in omega (arith, e, before)

-- the front passes
pub front-passes : (p : ℕ → Bool) (text : List ℕ) → list_all p (take (prefix_len p text) text) ≡ true
front-passes p [] = refl
front-passes p (b ∷ rest) = elim (cases_Bool (p b)) [ inl passes ↦ rw (passes, one-more (prefix_len p rest), passes) (front-passes p rest) | inr fails ↦ rw fails refl ] where
  one-more : (n : ℕ) → 1 + n ≡ suc n
  one-more n = omega arith

-- a text goes no further
abbrev pub Stops : (ℕ → Bool) → List ℕ → Type 0
Stops p [] = Unit {0}
Stops p (b ∷ rest) = p b ≡ false

pub front-stops : (p : ℕ → Bool) (text : List ℕ) → Stops p (drop (prefix_len p text) text)
front-stops p [] = tt
front-stops p (b ∷ rest) = go (p b) refl (front-stops p rest) where
  one-more : (n : ℕ) → suc n ≡ 1 + n
  one-more n = omega arith

  go : (t : Bool) → p b ≡ t → Stops p (drop (prefix_len p rest) rest) → Stops p (drop (if t then 1 + prefix_len p rest else 0) (b ∷ rest))
  go true is more = subst (λ (n : ℕ). Stops p (drop n (b ∷ rest))) (one-more (prefix_len p rest)) more
  go false is more = is

pub front-len : (p : ℕ → Bool) (front rest : List ℕ) → list_all p front ≡ true → Stops p rest → prefix_len p (front ++ rest) ≡ length front
front-len p [] [] passes stops = refl
front-len p [] (b ∷ rest) passes stops = rw stops refl
front-len p (b ∷ front) rest passes stops =
    let parts = and_parts (p b) (list_all p front) passes in
    let here = parts.0 in
    let e : prefix_len p (front ++ rest) ≡ length front = front-len p front rest parts.1 stops in
    rw here (omega (arith, e))

pub front-taken : (p : ℕ → Bool) (front rest : List ℕ) → list_all p front ≡ true → Stops p rest → take (prefix_len p (front ++ rest)) (front ++ rest) ≡ front
front-taken p front rest passes stops = take_at front rest (prefix_len p (front ++ rest)) (sym (front-len p front rest passes stops))

pub front-dropped : (p : ℕ → Bool) (front rest : List ℕ) → list_all p front ≡ true → Stops p rest → drop (prefix_len p (front ++ rest)) (front ++ rest) ≡ rest
front-dropped p front rest passes stops = drop_at front rest (prefix_len p (front ++ rest)) (sym (front-len p front rest passes stops))
