use Rattle.engine_world.proofs.CheckpointsInOne.{checkpoints-drop, checkpoints-finish, checkpoints-go, checkpoints-start}
use Rattle.engine_world.proofs.system.checkpoints_go.Goals as goal

pub returns-clause-start : goal.returns-clause-start
returns-clause-start c = checkpoints-start c.chains_go_on.ensures

pub returns-clause-finish : goal.returns-clause-finish
returns-clause-finish c = checkpoints-finish c.chains_go_on.ensures

pub returns-clause-drop : goal.returns-clause-drop
returns-clause-drop c = checkpoints-drop c.chains_go_on.ensures

pub returns-clause-one : goal.returns-clause-one
returns-clause-one c = checkpoints-go c.chains_go_on.ensures
