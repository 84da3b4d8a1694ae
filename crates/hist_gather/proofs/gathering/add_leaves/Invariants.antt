use Rattle.std.proofs.Common.{◌≡◌, ◌++◌, List, length, true}
use Rattle.kv_model.specs.History.{Table, has_table}
use Rattle.tree_dir.specs.declared.leaf.Leaf.{Leaf}
use Rattle.tree_dir.specs.Leaves.{leaves_of}
use Rattle.hist_pages.specs.Records.{Fits}
use Rattle.hist_gather.specs.Added.{AreKnown, HasMore}
use Rattle.hist_gather.specs.Sources.{OfLeaves}
use Rattle.hist_gather.proofs.gathering.add_leaves.Given as goal

abbrev pub invariant-loop-leaf : goal.invariant-loop-leaf
invariant-loop-leaf l = record {
  front : List Leaf;
  all : leaves_of l.table l.from.engine.now.hub.dir.leaves ≡ front ++ l.leaves;
  more : HasMore (OfLeaves l.from l.table front) l.fn.history l.history;
  known : (tables : List Table) → has_table tables l.table ≡ true → AreKnown tables l.fn.history → AreKnown tables l.history;
  fit : Fits l.fn.history → Fits l.history;
}

abbrev pub decreases-loop-leaf : goal.decreases-loop-leaf
decreases-loop-leaf l = length l.leaves
