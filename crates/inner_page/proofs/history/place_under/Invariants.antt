use Rattle.std.proofs.Common.{◌≡◌, ◌+◌, ◌-◌, ◌<◌, ◌≤◌, length, take, drop, true, false}
use Rattle.std.specs.Prelude.{◌⊎◌}
use Rattle.std.specs.List.{AllByRecursion}
use Rattle.stored.specs.HistoryTree.{HistoryEntry, is_before}
use Rattle.inner_page.specs.Marks.{mark_seen}
use Rattle.inner_page.proofs.history.place_under.Given as goal

abbrev pub invariant-loop-high : goal.invariant-loop-high
invariant-loop-high l = record {
  order : l.low < l.high;
  within : l.high ≤ length l.entries;
  upto : (l.low ≡ 0) ⊎ AllByRecursion (λ (e : HistoryEntry). is_before (mark_seen l.mark) e.least ≡ false) (take (l.low + 1) l.entries);
  behind : AllByRecursion (λ (e : HistoryEntry). is_before (mark_seen l.mark) e.least ≡ true) (drop l.high l.entries);
}

abbrev pub decreases-loop-high : goal.decreases-loop-high
decreases-loop-high l = l.high - l.low
