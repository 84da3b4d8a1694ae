use Rattle.std.proofs.Common.{ap}
use Rattle.stored.specs.TableTree.{Entry}
use Rattle.tree_open.proofs.Descent.{leaf_more}
use Rattle.engine_store.proofs.places.push_leaves.Goals as goal

pub loop-entry-preserved : goal.loop-entry-preserved
loop-entry-preserved c =
    leaf_more c.args.entries.now c.loop-entry.entry-index c.entry-item.result c.entry.inside.link.addr c.args.addrs.now.items c.loop-entry.addrs.items c.push_leaf.new.addrs.items c.loop-entry-test.true c.entry-item.is
    (ap (λ (x : Entry). x.link.addr) c.entry.view_is) c.loop-entry.invariant c.in_ok-push_leaf.ensures
