use Rattle.std.specs.Prelude.{◌≢◌, ◌+◌}
use Rattle.engine.proofs.EachBelow.{EachBelow}
use Rattle.engine.proofs.going_out.is_unpinned.Given as goal

abbrev pub invariant-loop-word : goal.invariant-loop-word
invariant-loop-word l = EachBelow (λ word. word ≢ l.frame + 1) l.words l.word-index
