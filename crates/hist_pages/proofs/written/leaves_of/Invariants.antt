use Rattle.std.proofs.Common.{length}
use Rattle.hist_pages.specs.Making.{AreGone}
use Rattle.hist_pages.proofs.written.leaves_of.Given as goal

abbrev pub invariant-loop-slot : goal.invariant-loop-slot
invariant-loop-slot l = AreGone l.history l.initial.walk l.walk l.leaves

abbrev pub decreases-loop-slot : goal.decreases-loop-slot
decreases-loop-slot l = length l.walk
