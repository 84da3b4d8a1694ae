use Rattle.engine_world.proofs.ReadLooks.{reads-go}
use Rattle.engine_world.proofs.frames.reads_go.Goals as goal

pub returns : goal.returns
returns c = reads-go c.held_reads_stand.ensures
