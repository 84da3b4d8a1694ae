use Rattle.std.proofs.Common.{◌≤◌, length}
use Rattle.evict_step.proofs.BroughtBack.{PutsRows}
use Rattle.evict_step.proofs.back.put_rows.Given as goal

abbrev pub invariant-loop-left : goal.invariant-loop-left
invariant-loop-left l = record {
  within : l.left ≤ length l.page;
  puts : PutsRows l.page l.left l.fn.leaf l.leaf;
}

abbrev pub decreases-loop-left : goal.decreases-loop-left
decreases-loop-left l = l.left
