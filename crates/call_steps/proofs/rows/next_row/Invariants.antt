use Rattle.leaf_frame.proofs.Walking.{ahead}
use Rattle.call_steps.proofs.RowWalk.{Walks}
use Rattle.call_steps.proofs.rows.next_row.Given as goal

abbrev pub invariant-loop-held : goal.invariant-loop-held
invariant-loop-held l = Walks l.view l.fn.walk l.walk

abbrev pub decreases-loop-held : goal.decreases-loop-held
decreases-loop-held l = ahead l.walk
