use Rattle.std.proofs.Common.{◌≡◌, ◌-◌, ◌≤◌, length, take, drop, true}
use Rattle.std.specs.List.{AllByRecursion}
use Rattle.row_page.specs.Rows.{is_below}
use Rattle.stored.specs.Records.{TableRoot}
use Rattle.device_read.proofs.find.place_of.Given as goal

abbrev pub invariant-loop-low : goal.invariant-loop-low
invariant-loop-low l = record {
  order : l.low ≤ l.high;
  within : l.high ≤ length l.tables;
  below : AllByRecursion (λ (t : TableRoot). is_below t.table.name l.name ≡ true) (take l.low l.tables);
  above : AllByRecursion (λ (t : TableRoot). is_below l.name t.table.name ≡ true) (drop l.high l.tables);
}

abbrev pub decreases-loop-low : goal.decreases-loop-low
decreases-loop-low l = l.high - l.low
