use Rattle.extent_list.specs.Units.{Raised}
use Rattle.extent_list.proofs.marks.raise.Given as goal

abbrev pub invariant-loop-k : goal.invariant-loop-k
invariant-loop-k l = Raised l.initial.bounds.items l.bounds.items l.from l.k l.least
