use Rattle.engine_world.proofs.LookingBelow.{orders-go}
use Rattle.engine_world.proofs.frames.orders_go.Goals as goal

pub returns : goal.returns
returns c = orders-go c.orders_stand.ensures
