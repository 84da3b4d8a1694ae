use Rattle.std.proofs.Common.{◌≡◌}
use Rattle.std.specs.Prelude.{Option, None}
use Rattle.engine.specs.declared.turning.Evicting.{Evicting}
use Rattle.engine.proofs.EachBelow.{EachBelow}
use Rattle.engine.proofs.turning.are_any.Given as goal

abbrev pub invariant-loop-at : goal.invariant-loop-at
invariant-loop-at l = EachBelow (λ (x : Option Evicting). x ≡ None) l.evicting l.at
