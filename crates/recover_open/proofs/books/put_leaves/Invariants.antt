use Rattle.std.proofs.Common.{◌≡◌, ◌++◌, map, take}
use Rattle.tree_open.specs.Trees.{leaf_addrs}
use Rattle.recover_open.specs.Damage.{found_there}
use Rattle.recover_open.proofs.books.put_leaves.Given as goal

abbrev pub invariant-loop-entry : goal.invariant-loop-entry
invariant-loop-entry l = l.found.items ≡ l.fn.found.items ++ map found_there (leaf_addrs (take l.entry-index l.entries))
