use Rattle.std.proofs.Common.{◌≡◌, ◌+◌, ◌-◌, ◌<◌, ◌≤◌, length, take, drop, true, false}
use Rattle.std.specs.Prelude.{◌⊎◌}
use Rattle.std.specs.List.{AllByRecursion}
use Rattle.row_page.specs.Rows.{is_below}
use Rattle.stored.specs.TableTree.{Entry}
use Rattle.device_read.proofs.leaves.place_under.Given as goal

abbrev pub invariant-loop-high : goal.invariant-loop-high
invariant-loop-high l = record {
  order : l.low < l.high;
  within : l.high ≤ length l.entries;
  upto : (l.low ≡ 0) ⊎ AllByRecursion (λ (e : Entry). is_below l.key e.key ≡ false) (take (l.low + 1) l.entries);
  behind : AllByRecursion (λ (e : Entry). is_below l.key e.key ≡ true) (drop l.high l.entries);
}

abbrev pub decreases-loop-high : goal.decreases-loop-high
decreases-loop-high l = l.high - l.low
