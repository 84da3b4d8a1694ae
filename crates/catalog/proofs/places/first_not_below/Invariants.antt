use Rattle.std.proofs.Common.{◌≡◌, ◌-◌, ◌≤◌, length, map, take, drop, true, false}
use Rattle.std.specs.List.{AllByRecursion}
use Rattle.kv_model.specs.History.{Table}
use Rattle.catalog.specs.Known.{is_below}
use Rattle.catalog.specs.Order.{table_at}
use Rattle.catalog.proofs.places.first_not_below.Given as goal

abbrev pub invariant-loop-low : goal.invariant-loop-low
invariant-loop-low l = record {
  order : l.low ≤ l.high;
  within : l.high ≤ length l.places;
  below : AllByRecursion (λ (t : Table). is_below t.name l.name ≡ true) (take l.low (map (table_at l.tables) l.places));
  above : AllByRecursion (λ (t : Table). is_below t.name l.name ≡ false) (drop l.high (map (table_at l.tables) l.places));
}

abbrev pub decreases-loop-low : goal.decreases-loop-low
decreases-loop-low l = l.high - l.low
