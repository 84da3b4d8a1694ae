use Rattle.std.proofs.Common.{◌≡◌, ◌++◌}
use Rattle.tree_dir.specs.Leaves.{no_leaves}
use Rattle.engine_start.specs.Entries.{AreAdded, tables_of}
use Rattle.engine_start.proofs.parting.part.Given as goal

abbrev pub invariant-loop-one : goal.invariant-loop-one
invariant-loop-one l = record {
  left : l.yielded ++ l.one-iterator.rest.items ≡ l.fn.both.items;
  tables : l.tables.items ≡ tables_of l.yielded;
  added : AreAdded no_leaves l.yielded l.dir;
}
