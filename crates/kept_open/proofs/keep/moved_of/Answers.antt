use Rattle.std.proofs.Common.{◌∙◌, ℕ, List, ap}
use Rattle.item.specs.declared.Change.{Change}
use Rattle.reconcile.specs.declared.image.Moved.{Moved}
use Rattle.stamp.specs.declared.version.Window.{Window}
use Rattle.stored.specs.HistoryTree.{HistoryRecord}
use Rattle.kept_open.specs.Keeping.{moved_of}
use Rattle.kept_open.proofs.keep.moved_of.Goals as goal

abbrev made : List ℕ → Window → Change → Moved
made key window change = record { key = key; version = record { window = window; change = change } }

pub returns : goal.returns
returns c =
    ap (λ (change : Change). made c.of.inside.key c.of.inside.version.window change) c.change_in.ensures
    ∙ ap (λ (r : HistoryRecord). moved_of r) c.of.view_is
