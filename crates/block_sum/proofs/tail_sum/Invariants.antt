use Rattle.std.proofs.Common.{◌≡◌, ◌+◌, ◌%◌, ◌^◌, drop}
use Rattle.block_sum.specs.Sum.{sum_from}
use Rattle.block_sum.proofs.tail_sum.Given as goal

abbrev pub invariant-loop-i : goal.invariant-loop-i
invariant-loop-i l = record {
  all : (l.total + sum_from (l.start + l.i) (drop l.i l.bytes)) % 2 ^ 32 ≡ sum_from l.start l.bytes % 2 ^ 32;
}
