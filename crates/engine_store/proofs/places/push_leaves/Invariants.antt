use Rattle.std.proofs.Common.{◌≡◌, ◌++◌, take}
use Rattle.tree_open.specs.Trees.{leaf_addrs}
use Rattle.engine_store.proofs.places.push_leaves.Given as goal

abbrev pub invariant-loop-entry : goal.invariant-loop-entry
invariant-loop-entry l = l.addrs.items ≡ l.fn.addrs.items ++ leaf_addrs (take l.entry-index l.entries)
