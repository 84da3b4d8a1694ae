use Rattle.std.proofs.Common.{◌≡◌, ◌-◌, ◌≤◌, length, take, drop, true, false}
use Rattle.std.specs.List.{AllByRecursion}
use Rattle.row_page.specs.Rows.{Row, is_below}
use Rattle.row_page.proofs.leaf.Leaf.first_not_below.Given as goal

abbrev pub invariant-loop-low : goal.invariant-loop-low
invariant-loop-low l = record {
  order : l.low ≤ l.high;
  within : l.high ≤ length l.self;
  below : AllByRecursion (λ (r : Row). is_below r.0 l.key ≡ true) (take l.low l.self);
  above : AllByRecursion (λ (r : Row). is_below r.0 l.key ≡ false) (drop l.high l.self);
}

abbrev pub decreases-loop-low : goal.decreases-loop-low
decreases-loop-low l = l.high - l.low
