use Rattle.std.proofs.Common.{◌≡◌, take}
use Rattle.std.specs.Prelude.{map}
use Rattle.row_page.specs.Greatest.{greatest_in}
use Rattle.stored.specs.HistoryTree.{HistoryEntry}
use Rattle.hist_open.proofs.greatest.greatest_name.Given as goal

abbrev pub invariant-loop-entry : goal.invariant-loop-entry
invariant-loop-entry l = l.greatest ≡ greatest_in (map {A = HistoryEntry} (λ x. x.link.greatest) (take l.entry-index l.entries))
