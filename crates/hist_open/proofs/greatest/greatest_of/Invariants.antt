use Rattle.std.proofs.Common.{◌≡◌, take}
use Rattle.std.specs.Prelude.{map}
use Rattle.row_page.specs.Greatest.{greatest_in}
use Rattle.stored.specs.HistoryTree.{HistoryRecord}
use Rattle.hist_open.proofs.greatest.greatest_of.Given as goal

abbrev pub invariant-loop-of : goal.invariant-loop-of
invariant-loop-of l = l.greatest ≡ greatest_in (map {A = HistoryRecord} (λ x. x.version.window.name) (take l.of-index l.records))
