use Rattle.std.proofs.Common.{arith}
use Rattle.update_chain.specs.Updates.{installed}
use Rattle.leaf_chains.proofs.Changes.{changed_set, changed_past}
use Rattle.leaf_chains.proofs.chains.install_in.Goals as goal

pub returns-in_ok-install-clause-installed : goal.returns-in_ok-install-clause-installed
returns-in_ok-install-clause-installed c = changed_set c.args.slot (installed c.args.update) c.args.slots.now.items c.index_mut.result.now c.install.new.self (omega (arith, c.len.ensures, c.if-at-len.true)) c.index_mut.ensures.value c.in_ok-install.ensures.installed

pub returns-else-at-len-clause-installed : goal.returns-else-at-len-clause-installed
returns-else-at-len-clause-installed c = changed_past c.args.slot (installed c.args.update) c.args.slots.now.items (omega (arith, c.len.ensures, c.if-at-len.false))
