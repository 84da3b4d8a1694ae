use Rattle.leaf_frame.specs.Near.{chain_in}
use Rattle.leaf_frame.proofs.Passing.{bare_is}
use Rattle.leaf_frame.proofs.near.is_bare.Goals as goal

pub returns-then-is_none : goal.returns-then-is_none
returns-then-is_none c = bare_is (chain_in c.args.near.now.there) c.args.near.now.cell c.is_empty.result c.if-is_none.ensures c.is_empty.ensures
