use Rattle.leaf_frame.proofs.Walking.{Passes, ahead}
use Rattle.leaf_frame.proofs.walk.LeafWalk.next_held.Given as goal

abbrev pub invariant-loop-near : goal.invariant-loop-near
invariant-loop-near l = Passes l.view l.fn.self l.self

abbrev pub decreases-loop-near : goal.decreases-loop-near
decreases-loop-near l = ahead l.self
