use Rattle.catalog.proofs.InOrder.{order_ascends, order_keeps, order_is_one}
use Rattle.catalog.proofs.laws.orders_are_by_name.Goals as goal

pub returns-clause-ascend : goal.returns-clause-ascend
returns-clause-ascend c = order_ascends

pub returns-clause-keep : goal.returns-clause-keep
returns-clause-keep c = order_keeps

pub returns-clause-one : goal.returns-clause-one
returns-clause-one c = order_is_one
