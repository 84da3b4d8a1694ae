use Rattle.std.proofs.Common.{◌≡◌, ◌++◌}
use Rattle.recover_open.proofs.leaves.append.Given as goal

abbrev pub invariant-loop-row : goal.invariant-loop-row
invariant-loop-row l = record {
  moved : l.rows ≡ l.fn.rows ++ l.yielded;
  left : l.yielded ++ l.row-iterator.rest.items ≡ l.fn.more.items;
}
