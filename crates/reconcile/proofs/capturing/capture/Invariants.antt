use Rattle.std.proofs.Common.{length}
use Rattle.reconcile.specs.Gathered.{rows_of, slots_at}
use Rattle.reconcile.proofs.Filling.{GatheredTo}
use Rattle.reconcile.proofs.capturing.capture.Given as goal

abbrev pub invariant-loop-slot : goal.invariant-loop-slot
invariant-loop-slot l = GatheredTo l.snapshot.sight l.chains l.walk (rows_of l.snapshot.sight (slots_at l.chains l.initial.walk)) l.gathered

abbrev pub decreases-loop-slot : goal.decreases-loop-slot
decreases-loop-slot l = length l.walk
