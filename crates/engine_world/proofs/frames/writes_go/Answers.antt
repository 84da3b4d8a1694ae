use Rattle.engine_world.proofs.WriteLooks.{writes-go}
use Rattle.engine_world.proofs.frames.writes_go.Goals as goal

pub returns : goal.returns
returns c = writes-go c.chains_go_on.ensures c.installs_stand.ensures c.writes_stand.ensures
