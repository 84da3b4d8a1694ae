use Rattle.std.proofs.Common.{IsTrue, take}
use Rattle.std.specs.List.{AllByRecursion}
use Rattle.row_page.specs.Rows.{Row}
use Rattle.leaf_rows.specs.Contents.{is_seen_row}
use Rattle.leaf_load.proofs.kept.each_is_seen.Given as goal

abbrev pub invariant-loop-i : goal.invariant-loop-i
invariant-loop-i l = AllByRecursion (λ (r : Row). IsTrue (is_seen_row l.marks l.ids r)) (take l.i l.page)
