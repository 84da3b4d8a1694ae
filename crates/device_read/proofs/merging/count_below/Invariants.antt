use Rattle.std.proofs.Common.{◌≡◌, take, true}
use Rattle.std.specs.List.{AllByRecursion}
use Rattle.stored.specs.HistoryTree.{HistoryRecord}
use Rattle.row_page.specs.Rows.{is_below}
use Rattle.device_read.proofs.merging.count_below.Given as goal

abbrev pub invariant-loop-i : goal.invariant-loop-i
invariant-loop-i l = AllByRecursion (λ (r : HistoryRecord). is_below r.key l.key ≡ true) (take l.i l.newest)
