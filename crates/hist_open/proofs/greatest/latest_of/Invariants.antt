use Rattle.std.proofs.Common.{◌≡◌, take}
use Rattle.std.specs.Prelude.{map}
use Rattle.row_page.specs.Greatest.{most_in}
use Rattle.stored.specs.HistoryTree.{HistoryRecord}
use Rattle.hist_open.proofs.greatest.latest_of.Given as goal

abbrev pub invariant-loop-of : goal.invariant-loop-of
invariant-loop-of l = l.greatest ≡ most_in (map {A = HistoryRecord} (λ x. x.version.window.durable) (take l.of-index l.records))
