use Rattle.update_chain.specs.Updates.{covers_at}
use Rattle.update_chain.proofs.ChainLemmas.{NoneBefore}
use Rattle.update_chain.proofs.chain.covered_from.Given as goal

abbrev pub invariant-loop-i : goal.invariant-loop-i
invariant-loop-i l = NoneBefore (covers_at l.pin l.floor) l.updates.items l.i
