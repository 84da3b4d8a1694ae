use Rattle.std.proofs.Common.{arith}
use Rattle.update_chain.specs.Updates.{rolled_back}
use Rattle.leaf_chains.proofs.Changes.{changed_set, changed_past}
use Rattle.leaf_chains.proofs.chains.roll_back_in.Goals as goal

pub returns-then-at-len : goal.returns-then-at-len
returns-then-at-len c = changed_set c.args.slot (rolled_back c.args.stable) c.args.slots.now.items c.index_mut.result.now c.roll_back_to_stable.new.self (omega (arith, c.len.ensures, c.if-at-len.true)) c.index_mut.ensures.value c.roll_back_to_stable.ensures

pub returns-else-at-len : goal.returns-else-at-len
returns-else-at-len c = changed_past c.args.slot (rolled_back c.args.stable) c.args.slots.now.items (omega (arith, c.len.ensures, c.if-at-len.false))
