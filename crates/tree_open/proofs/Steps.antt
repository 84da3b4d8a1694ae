-- Refusals, from step to step.
use Rattle.std.proofs.Common.{ℕ, refl, inl, inr, arith}
use Rattle.disk_model.specs.declared.disk.Disk.{Ghosts}
use Rattle.disk_model.specs.Crash.{Looked}
use Rattle.wt_code.specs.declared.refusals.Refusal.{Refusal}
use Rattle.tree_open.specs.Damage.{Refused}

pub looked_none : {D : Type 0} (g : Ghosts D) (d : D) → Looked g d d
looked_none g d = record { same = refl; content = refl; images = λ c left. left; capacity = refl; count = omega arith; later = omega arith; since = λ t c le left. left }

-- a refusal of a part is one of the whole
pub refused_more : (fault fault' known known' : Type 0) (P Q : ℕ → ℕ → ℕ → Type 0) (r : Refusal) → (fault → fault') → (known' → known) → ((at want found : ℕ) → known' → P at want found → Q at want found) → Refused fault known P r → Refused fault' known' Q r
refused_more fault fault' known known' P Q r sooner same more (inl (is, rose)) = inl (is, sooner rose)
refused_more fault fault' known known' P Q r sooner same more (inr (inl none)) = inr (inl none)
refused_more fault fault' known known' P Q r sooner same more (inr (inr (at, want, found, is, damage))) = inr (inr (at, want, found, is, λ h. more at want found h (damage (same h))))
