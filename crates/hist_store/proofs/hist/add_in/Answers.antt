use Rattle.std.proofs.Common.{arith}
use Rattle.hist_store.specs.Versions.{with_version}
use Rattle.hist_store.proofs.ByKey.{changed-set, changed-past}
use Rattle.hist_store.proofs.hist.add_in.Goals as goal

pub returns-in_ok-add-clause-added : goal.returns-in_ok-add-clause-added
returns-in_ok-add-clause-added c = changed-set c.args.slot (with_version c.args.version) c.args.slots.now.items c.index_mut.result.now c.add.new.self (omega (arith, c.len.ensures, c.if-at-len.true)) c.index_mut.ensures.value c.in_ok-add.ensures.added

pub returns-else-at-len-clause-added : goal.returns-else-at-len-clause-added
returns-else-at-len-clause-added c = changed-past c.args.slot (with_version c.args.version) c.args.slots.now.items (omega (arith, c.len.ensures, c.if-at-len.false))
