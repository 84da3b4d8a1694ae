-- Two seats of a table.
use Rattle.std.proofs.Common.{◌≡◌, ℕ, zero, suc, ◌<◌, List, [], ◌∷◌, ◌++◌, length, sym, refl, ap, ◌∙◌, subst, arith}
use mathlib.Core.Option.{some, some-injective, some-ne-none}
use lib.ListN.{get_elem?}
use Rattle.latch_table.specs.declared.latched.Latched.{Latched}
use Rattle.latch_table.specs.declared.seat.Seat.{Seat}
use Rattle.latch_table.specs.Closing.{AreAll, IsIdle}
use Rattle.latch_table.specs.Opening.{AreSeats, IsFresh}
use Rattle.latch_table.specs.Tables.{number_of_seat, shape_of}

pub at_last : {A : Type 0} (less : List A) (x : A) → get_elem? (less ++ x ∷ []) (length less) ≡ some x
at_last [] x = refl
at_last (y ∷ ys) x = at_last ys x

pub at_before : {A : Type 0} (less : List A) (x : A) (rest : List A) → get_elem? ((less ++ x ∷ []) ++ rest) (length less) ≡ some x
at_before [] x rest = refl
at_before (y ∷ ys) x rest = at_before ys x rest

module _ {L H F N : Type 0} (t : Latched L H F N) where
  pub last_fresh : (start : ℕ → N) (seats less : List (Seat L H F N)) (s : Seat L H F N) (j : ℕ) → AreSeats start t seats → seats ≡ less ++ s ∷ [] → length less ≡ j → IsFresh start t j s
  last_fresh start seats less s j are e n = are.fresh j s (ap (λ l. get_elem? l j) e ∙ (ap (λ (k : ℕ). get_elem? (less ++ s ∷ []) k) (sym n) ∙ at_last less s))

  pub last_but_one_fresh : (start : ℕ → N) (seats less least : List (Seat L H F N)) (s r : Seat L H F N) (j : ℕ) → AreSeats start t seats → seats ≡ less ++ r ∷ [] → less ≡ least ++ s ∷ [] → length least ≡ j
      → IsFresh start t j s
  last_but_one_fresh start seats less least s r j are e d n =
      are.fresh j s (ap (λ l. get_elem? l j) (e ∙ ap (λ l. l ++ r ∷ []) d) ∙ (ap (λ (k : ℕ). get_elem? ((least ++ s ∷ []) ++ r ∷ []) k) (sym n) ∙ at_before least s (r ∷ [])))

  two_idle : (a b : Seat L H F N) → IsIdle t a → IsIdle t b → (i : ℕ) (s : Seat L H F N) → get_elem? (a ∷ b ∷ []) i ≡ some s → IsIdle t s
  two_idle a b p q zero s e = subst (λ (y : Seat L H F N). IsIdle t y) (some-injective a s e) p
  two_idle a b p q (suc zero) s e = subst (λ (y : Seat L H F N). IsIdle t y) (some-injective b s e) q
  two_idle a b p q (suc (suc i)) s e = absurd (some-ne-none s (sym e))

  two_each : (a b : Seat L H F N) → number_of_seat a ≡ 0 → number_of_seat b ≡ 1 → (j : ℕ) → j < 2
      → (i : ℕ) × (s : Seat L H F N) × (get_elem? (a ∷ b ∷ []) i ≡ some s) × (number_of_seat s ≡ j)
  two_each a b p q zero l = (0, a, refl, p)
  two_each a b p q (suc zero) l = (1, b, refl, q)
  two_each a b p q (suc (suc j)) l = absurd (omega arith)

  pub two_all : (a b : Seat L H F N) → (shape_of t).seats ≡ 2 → IsIdle t a × (number_of_seat a ≡ 0) → IsIdle t b × (number_of_seat b ≡ 1) → AreAll t (a ∷ b ∷ [])
  two_all a b n p q = record { idle = two_idle a b p.0 q.0; each = λ j l. two_each a b p.1 q.1 j (omega arith) }
