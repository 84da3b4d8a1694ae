use Rattle.std.proofs.Common.{◌≡◌, length}
use Rattle.reconcile.specs.Gathered.{slots_at}
use Rattle.leaf_frame.specs.Updates.{least_of, lesser}
use Rattle.leaf_frame.proofs.updates.least_unseen.Given as goal

abbrev pub invariant-loop-slot : goal.invariant-loop-slot
invariant-loop-slot l = lesser l.least (least_of l.live.sight (slots_at l.chains l.walk)) ≡ least_of l.live.sight (slots_at l.chains l.initial.walk)

abbrev pub decreases-loop-slot : goal.decreases-loop-slot
decreases-loop-slot l = length l.walk
