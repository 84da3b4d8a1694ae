use Rattle.leaf_frame.proofs.Walking.{fewer_ahead, passes_on}
use Rattle.leaf_frame.proofs.walk.LeafWalk.next_held.Goals as goal

pub loop-near-smaller : goal.loop-near-smaller
loop-near-smaller c = fewer_ahead c.loop-near.self c.pass.new.self c.in-Some.near c.in-Some.ensures.0 c.in-Some.ensures.1

pub loop-near-preserved : goal.loop-near-preserved
loop-near-preserved c = passes_on c.args.view.now c.args.self.now c.loop-near.self c.pass.new.self c.in-Some.near c.loop-near.invariant c.in-Some.ensures.0 c.in-Some.ensures.1 c.in_default-row_of.ensures
