use Rattle.extent_list.specs.Units.{Marked}
use Rattle.extent_list.proofs.marks.mark.Given as goal

abbrev pub invariant-loop-u : goal.invariant-loop-u
invariant-loop-u l = Marked l.initial.units.items l.units.items l.from l.u l.state
