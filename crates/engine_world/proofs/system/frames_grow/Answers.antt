use Rattle.engine_world.proofs.Growing.{frames-grow}
use Rattle.engine_world.proofs.system.frames_grow.Goals as goal

pub returns : goal.returns
returns c = frames-grow
