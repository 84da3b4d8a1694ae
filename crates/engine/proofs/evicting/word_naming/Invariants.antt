use Rattle.std.specs.Prelude.{◌≢◌, ◌+◌}
use Rattle.engine.proofs.EachBelow.{EachBelow}
use Rattle.engine.proofs.evicting.word_naming.Given as goal

abbrev pub invariant-loop-at : goal.invariant-loop-at
invariant-loop-at l = EachBelow (λ word. word ≢ l.frame + 1) l.words l.at
