use Rattle.std.proofs.Common.{ap}
use Rattle.stored.specs.HistoryTree.{HistoryEntry}
use Rattle.hist_open.proofs.Maxima.{name_more}
use Rattle.hist_open.proofs.greatest.greatest_name.Goals as goal

pub loop-entry-preserved : goal.loop-entry-preserved
loop-entry-preserved c =
    name_more c.args.entries.now c.loop-entry.entry-index c.entry-item.result c.loop-entry.greatest c.entry.inside.link.greatest c.later-greatest.result c.loop-entry-test.true c.entry-item.is
    (ap (λ (e : HistoryEntry). e.link.greatest) c.entry.view_is) c.loop-entry.invariant c.later-greatest.ensures.is
