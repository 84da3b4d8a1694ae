use Rattle.engine_world.proofs.ReadLooks.{rows-go}
use Rattle.engine_world.proofs.frames.rows_go.Goals as goal

pub returns : goal.returns
returns c = rows-go c.held_reads_stand.ensures
