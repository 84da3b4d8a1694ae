use Rattle.update_chain.specs.Updates.{decides}
use Rattle.update_chain.proofs.ChainLemmas.{NoneBefore}
use Rattle.update_chain.proofs.chain.read_older.Given as goal

abbrev pub invariant-loop-i : goal.invariant-loop-i
invariant-loop-i l = NoneBefore (decides l.view) l.older.items l.i
