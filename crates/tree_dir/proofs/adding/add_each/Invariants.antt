use Rattle.ordered_groups.specs.Groups.{entries}
use Rattle.tree_dir.specs.Added.{IsAdded}
use Rattle.tree_dir.proofs.adding.add_each.Given as goal

abbrev pub invariant-loop-entry : goal.invariant-loop-entry
invariant-loop-entry l = IsAdded l.fn.slots.items (entries l.fn.order) l.table l.serial l.yielded l.slots.items (entries l.order)
