use Rattle.extent_list.proofs.WalkLemmas.{Walk}
use Rattle.extent_list.proofs.scan.lowest_within.Given as goal

abbrev pub invariant-loop-i : goal.invariant-loop-i
invariant-loop-i l = Walk l.units l.fn.from l.i l.run l.longest l.fn.count
