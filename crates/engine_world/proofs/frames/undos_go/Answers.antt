use Rattle.engine_world.proofs.TakingOut.{undos-go}
use Rattle.engine_world.proofs.frames.undos_go.Goals as goal

pub returns : goal.returns
returns c = undos-go c.undos_stand.ensures c.chains_go_on.ensures
