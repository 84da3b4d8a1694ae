use Rattle.ordered_groups.specs.Groups.{entries}
use Rattle.tree_dir.proofs.NewLeaves.{more-added}
use Rattle.tree_dir.proofs.adding.add_each.Goals as goal

pub loop-entry-preserved : goal.loop-entry-preserved
loop-entry-preserved c =
    more-added c.args.slots.now.items c.loop-entry.slots.items c.add_one.new.slots.items (entries c.args.order.now) (entries c.loop-entry.order) (entries c.add_one.new.order) c.args.table c.args.serial c.loop-entry.yielded c.in-Some.entry
    c.loop-entry.invariant c.in_ok-add_one.ensures.added
