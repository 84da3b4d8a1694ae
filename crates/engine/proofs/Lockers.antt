-- Which evictions have locked a frame, found one after the other.
use Rattle.std.proofs.Common.{◌≡◌, ◌≢◌, ◌+◌, ◌<◌, ◌≤◌, ℕ, zero, suc, refl, sym, ◌∙◌, ap, List, [], ◌∷◌, length, inl, inr, subst, arith}
use Rattle.std.specs.Prelude.{Option, None, Some, false, slice_get}
use Rattle.std.proofs.lemmas.Bool.{cases_eq}
use Rattle.std.proofs.lemmas.Option.{get_or_from_slice_get, same_Some, slice_get_within}
use Rattle.engine.specs.declared.turning.Evicting.{Evicting}
use Rattle.kv_model.specs.Decisions.{is_there}
use Rattle.call_steps.specs.declared.stage.Target.{Target}
use Rattle.engine.specs.Turning.{LocksFrame, LocksIn, evicting_by, found_on}

-- none before this place but one has
abbrev pub NoneBelow : List (Option Evicting) → ℕ → ℕ → ℕ → ℕ → Type 0
NoneBelow evicting but frame word n = (k : ℕ) (x : Option Evicting) → k < n → slice_get evicting k ≡ Some x → k ≢ but → LocksIn x frame word → ⊥

module _ (evicting : List (Option Evicting)) (but frame word : ℕ) where
  pub none-more : (n : ℕ) (x : Option Evicting) → NoneBelow evicting but frame word n → slice_get evicting n ≡ Some x → (n ≢ but → LocksIn x frame word → ⊥) → NoneBelow evicting but frame word (n + 1)
  none-more n x below at not k y less there other = elim (cases_eq k n) [
    | inl here ↦ λ locks. not (λ same. other (here ∙ same)) (subst (λ (z : Option Evicting). LocksIn z frame word) (same_Some y x (sym there ∙ (ap (slice_get evicting) here ∙ at))) locks)
    | inr differs ↦ below k y (omega (arith, less, differs)) there other
  ]

  pub none-all : (n : ℕ) → NoneBelow evicting but frame word n → length evicting ≤ n → (number : ℕ) → number ≢ but → LocksFrame evicting number frame word → ⊥
  none-all n below end number other locks = let within = slice_get_within evicting number locks.0 locks.1 in below number locks.0 (omega (arith, within, end)) locks.1 other locks.2

-- none is at the place behind them
pub behind-all : (evicting : List (Option Evicting)) (number frame word : ℕ) → LocksFrame evicting number frame word → number ≢ length evicting
behind-all evicting number frame word locks same = let within = slice_get_within evicting number locks.0 locks.1 in absurd (omega (arith, within, same))

-- what holds of each, and of none, holds of that of each actor
pub each-by : (P : Option Evicting → Type 0) → P None → (evicting : List (Option Evicting)) → ((k : ℕ) (x : Option Evicting) → slice_get evicting k ≡ Some x → P x) → (number : ℕ) → P (evicting_by evicting number)
each-by P none [] each number = none
each-by P none (y ∷ evicting) each zero = each 0 y refl
each-by P none (y ∷ evicting) each (suc n) = each-by P none evicting (λ k x at. each (suc k) x at) n

pub found-at : (evicting : List (Option Evicting)) (number : ℕ) (x : Option Evicting) (target : Target) → slice_get evicting number ≡ Some x → found_on x ≡ Some target → found_on (evicting_by evicting number) ≡ Some target
found-at evicting number x target at found = ap found_on (get_or_from_slice_get evicting number x None at) ∙ found

pub none-there : (x : Option Evicting) → is_there x ≡ false → x ≡ None
none-there None is = refl
none-there (Some y) is = absurd (cc)
