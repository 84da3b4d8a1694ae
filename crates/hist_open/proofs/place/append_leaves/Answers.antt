use Rattle.std.proofs.Common.{ap}
use Rattle.stored.specs.HistoryTree.{HistoryEntry}
use Rattle.hist_open.proofs.Descent.{leaf_more}
use Rattle.hist_open.proofs.place.append_leaves.Goals as goal

pub loop-entry-preserved : goal.loop-entry-preserved
loop-entry-preserved c =
    leaf_more c.args.entries.now c.loop-entry.entry-index c.entry-item.result c.entry.inside.link.addr c.args.addrs.now.items c.loop-entry.addrs.items c.push_leaf.new.addrs.items c.loop-entry-test.true c.entry-item.is
    (ap (λ (x : HistoryEntry). x.link.addr) c.entry.view_is) c.loop-entry.invariant c.in_ok-push_leaf.ensures
