use Rattle.std.specs.Prelude.{◌≢◌}
use Rattle.call_steps.specs.declared.written.WrittenKey.{WrittenKey}
use Rattle.engine.proofs.EachBelow.{EachBelow}
use Rattle.engine.proofs.evicting.has_written.Given as goal

abbrev pub invariant-loop-key : goal.invariant-loop-key
invariant-loop-key l = EachBelow (λ (k : WrittenKey). k.frame ≢ l.frame) l.keys l.key-index
