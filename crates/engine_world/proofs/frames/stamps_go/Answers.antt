use Rattle.engine_world.proofs.StampingLeaves.{stamps-go}
use Rattle.engine_world.proofs.frames.stamps_go.Goals as goal

pub returns : goal.returns
returns c = stamps-go c.marks_stand.ensures c.stamps_stand.ensures
