use Rattle.engine_world.proofs.MarkingLeaves.{marks-go}
use Rattle.engine_world.proofs.frames.marks_go.Goals as goal

pub returns : goal.returns
returns c = marks-go c.marks_stand.ensures
