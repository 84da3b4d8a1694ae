use Rattle.std.proofs.Common.{ap}
use Rattle.stored.specs.TableTree.{Entry}
use Rattle.recover_open.proofs.UpperPlaces.{found_leaf}
use Rattle.recover_open.proofs.books.put_leaves.Goals as goal

pub loop-entry-preserved : goal.loop-entry-preserved
loop-entry-preserved c =
    found_leaf c.args.entries.now c.loop-entry.entry-index c.entry-item.result c.entry.inside.link.addr c.args.found.now.items c.loop-entry.found.items c.put_leaf.new.found.items c.loop-entry-test.true c.entry-item.is
    (ap (λ (x : Entry). x.link.addr) c.entry.view_is) c.loop-entry.invariant c.in_ok-put_leaf.ensures
