use Rattle.engine_world.proofs.EngineStarts.{engines-start}
use Rattle.engine_world.proofs.system.engines_start.Goals as goal

pub returns : goal.returns
returns c = engines-start c.frames_are_alike.ensures
