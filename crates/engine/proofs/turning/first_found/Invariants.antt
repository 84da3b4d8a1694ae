use Rattle.std.proofs.Common.{◌≡◌}
use Rattle.std.specs.Prelude.{Option, None}
use Rattle.engine.specs.declared.turning.Evicting.{Evicting}
use Rattle.engine.specs.Turning.{found_on}
use Rattle.engine.proofs.EachBelow.{EachBelow}
use Rattle.engine.proofs.turning.first_found.Given as goal

abbrev pub invariant-loop-at : goal.invariant-loop-at
invariant-loop-at l = EachBelow (λ (x : Option Evicting). found_on x ≡ None) l.evicting l.at
