-- Searches and least values over the sessions.
use Rattle.std.proofs.Common.{◌≡◌, ◌<◌, ◌+◌, ℕ, zero, suc, refl, ap, sym, ◌∙◌, Bool, true, false, List, [], ◌∷◌, length, drop, get_or, below_more, arith}
use Rattle.std.specs.Prelude.{min, fold, Option, Some, None}
use Rattle.std.specs.List.{filter_map}
use Rattle.std.proofs.lemmas.List.{get_or_read}
use Rattle.txn_table.specs.declared.phase.Phase.{Phase}
use Rattle.txn_table.specs.SessionData.{SessionData}
use Rattle.txn_table.specs.Tabled.{first_in, lower_of}

-- none of the first i is in a phase that passes
abbrev pub NoneBefore : (Phase → Bool) → List SessionData → ℕ → Type 0
NoneBefore test states i = (k : ℕ) → k < i → (d : SessionData) → test (get_or states k d).phase ≡ false

pub none-more : (test : Phase → Bool) (states : List SessionData) (i : ℕ) (x : SessionData) → i < length states → NoneBefore test states i → x ≡ get_or states i x → test x.phase ≡ false → NoneBefore test states (i + 1)
none-more test states i x lt none e isnt = below_more _ _ none (λ d. ap (λ (z : SessionData). test z.phase) (sym (get_or_read states i x lt e d)) ∙ isnt)

later : (test : Phase → Bool) (x : SessionData) (states : List SessionData) (i : ℕ) → NoneBefore test (x ∷ states) (suc i) → NoneBefore test states i
later test x states i none k lt d = none (suc k) (omega arith) d

pub first-here : (test : Phase → Bool) (at : ℕ) (states : List SessionData) (i : ℕ) (x : SessionData) → i < length states → NoneBefore test states i → x ≡ get_or states i x → test x.phase ≡ true → first_in test at states ≡ Some (at + i)
first-here test at [] i x lt none e is = absurd (omega arith)
first-here test at (y ∷ states) zero x lt none e is = let n : at ≡ at + 0 = omega arith in rw (ap (λ (z : SessionData). test z.phase) (sym e) ∙ is) (ap Some n)
first-here test at (y ∷ states) (suc i) x lt none e is = let n : (at + 1) + i ≡ at + suc i = omega arith in
    rw (none 0 (omega arith) x) (first-here test (at + 1) states i x (omega arith) (later test y states i none) e is ∙ ap Some n)

pub first-none : (test : Phase → Bool) (at : ℕ) (states : List SessionData) → NoneBefore test states (length states) → first_in test at states ≡ None
first-none test at [] none = refl
first-none test at (y ∷ states) none = rw (none 0 (omega arith) y) (first-none test (at + 1) states (later test y states (length states) none))

-- ---- least values

step-at : (f : SessionData → Option ℕ) (x : SessionData) (states : List SessionData) (p : ℕ) (o : Option ℕ) → f x ≡ o → fold min (lower_of p o) (filter_map f states) ≡ fold min p (filter_map f (x ∷ states))
step-at f x states p None e = rw e refl
step-at f x states p (Some n) e = rw e refl

least-step : (f : SessionData → Option ℕ) (states : List SessionData) (i p : ℕ) (x : SessionData) → i < length states → x ≡ get_or states i x → fold min (lower_of p (f x)) (filter_map f (drop (suc i) states)) ≡ fold min p (filter_map f (drop i states))
least-step f [] i p x lt e = absurd (omega arith)
least-step f (y ∷ states) zero p x lt e = ap (λ z. fold min (lower_of p (f z)) (filter_map f states)) e ∙ step-at f y states p (f y) refl
least-step f (y ∷ states) (suc i) p x lt e = least-step f states i p x (omega arith) e

-- what is left of the sessions lowers the least to that of all
abbrev pub Lowering : (SessionData → Option ℕ) → List SessionData → ℕ → ℕ → ℕ → Type 0
Lowering f states start i now = fold min now (filter_map f (drop i states)) ≡ fold min start (filter_map f states)

pub lowering-more : (f : SessionData → Option ℕ) (states : List SessionData) (start i now : ℕ) (x : SessionData) → i < length states → x ≡ get_or states i x → Lowering f states start i now → Lowering f states start (i + 1) (lower_of now (f x))
lowering-more f states start i now x lt e l = let n : i + 1 ≡ suc i = omega arith in rw n (least-step f states i now x lt e ∙ l)

pub lowering-done : (f : SessionData → Option ℕ) (states : List SessionData) (start now : ℕ) → Lowering f states start (length states) now → now ≡ fold min start (filter_map f states)
lowering-done f states start now l = sym (ap (λ rest. fold min now (filter_map f rest)) (drop-all states)) ∙ l where
  drop-all : (xs : List SessionData) → drop (length xs) xs ≡ []
  drop-all [] = refl
  drop-all (x ∷ xs) = drop-all xs
