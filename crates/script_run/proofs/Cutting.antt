-- Bytes without a newline, and what a source gives in pieces.
use Rattle.std.proofs.Common.{◌≡◌, ◌≢◌, ◌∙◌, ◌++◌, ◌+◌, ◌<◌, ℕ, zero, suc, List, [], ◌∷◌, length, take, refl, sym, ap, subst, get_or, append_assoc}
use Rattle.std.specs.Prelude.{Option, Some, None, ◌==◌, ◌&&◌, not, Bool, true, false}
use Rattle.std.proofs.lemmas.Bool.{ne_eqb, false≢true}
use Rattle.std.proofs.lemmas.List.{take_more}
use Rattle.wt_io.specs.Streams.{Gave}
use Rattle.script_run.specs.Lines.{is_unbroken}

-- ---- bytes without a newline

first_of : (a b : Bool) → a && b ≡ true → a ≡ true
first_of true b e = refl
first_of false b e = absurd (false≢true e)

second_of : (a b : Bool) → a && b ≡ true → b ≡ true
second_of true b e = e
second_of false b e = absurd (false≢true e)

both_of : (a b : Bool) → a ≡ true → b ≡ true → a && b ≡ true
both_of true b p q = q
both_of false b p q = absurd (false≢true p)

pub unbroken-both : (xs ys : List ℕ) → is_unbroken xs ≡ true → is_unbroken ys ≡ true → is_unbroken (xs ++ ys) ≡ true
unbroken-both [] ys p q = q
unbroken-both (b ∷ xs) ys p q =
    both_of (not (b == 10)) (is_unbroken (xs ++ ys)) (first_of (not (b == 10)) (is_unbroken xs) p) (unbroken-both xs ys (second_of (not (b == 10)) (is_unbroken xs) p) q)

pub unbroken-take : (n : ℕ) (xs : List ℕ) → is_unbroken xs ≡ true → is_unbroken (take n xs) ≡ true
unbroken-take zero xs p = refl
unbroken-take (suc n) [] p = refl
unbroken-take (suc n) (b ∷ xs) p =
    both_of (not (b == 10)) (is_unbroken (take n xs)) (first_of (not (b == 10)) (is_unbroken xs) p) (unbroken-take n xs (second_of (not (b == 10)) (is_unbroken xs) p))

one_unbroken : (b : ℕ) → b ≢ 10 → is_unbroken (b ∷ []) ≡ true
one_unbroken b other = rw (ne_eqb b 10 other) refl

pub unbroken-more : (xs : List ℕ) (i : ℕ) → i < length xs → get_or xs i 0 ≢ 10 → is_unbroken (take i xs) ≡ true → is_unbroken (take (i + 1) xs) ≡ true
unbroken-more xs i inside other before =
    subst (λ (l : List ℕ). is_unbroken l ≡ true) (sym (take_more xs i 0 inside)) (unbroken-both (take i xs) (get_or xs i 0 ∷ []) before (one_unbroken (get_or xs i 0) other))

-- ---- what a source gives

pub gave_none : (now : Option (List ℕ)) → Gave now now []
gave_none None = refl
gave_none (Some all) = (all, refl, refl)

pub gave_same : (before now : Option (List ℕ)) → now ≡ before → Gave before now []
gave_same before now is = subst (λ (o : Option (List ℕ)). Gave before o []) (sym is) (gave_none before)

pub gave_more : (first second third : Option (List ℕ)) (xs ys : List ℕ) → Gave first second xs → Gave second third ys → Gave first third (xs ++ ys)
gave_more None second third xs ys a b = then (subst (λ (o : Option (List ℕ)). Gave o third ys) a b)
  where
    then : Gave None third ys → third ≡ None
    then is = is
gave_more (Some before) second third xs ys (rest, is, front) b = then (subst (λ (o : Option (List ℕ)). Gave o third ys) is b)
  where
    then : Gave (Some rest) third ys → Gave (Some before) third (xs ++ ys)
    then (last, told, more) = (last, told, front ∙ (ap (λ (l : List ℕ). xs ++ l) more ∙ sym (append_assoc xs ys last)))
