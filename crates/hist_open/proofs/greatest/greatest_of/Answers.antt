use Rattle.std.proofs.Common.{ap}
use Rattle.stored.specs.HistoryTree.{HistoryRecord}
use Rattle.hist_open.proofs.Maxima.{record_name_more}
use Rattle.hist_open.proofs.greatest.greatest_of.Goals as goal

pub loop-of-preserved : goal.loop-of-preserved
loop-of-preserved c =
    record_name_more c.args.records.now c.loop-of.of-index c.of-item.result c.loop-of.greatest c.of.inside.version.window.name c.later-greatest.result c.loop-of-test.true c.of-item.is
    (ap (λ (e : HistoryRecord). e.version.window.name) c.of.view_is) c.loop-of.invariant c.later-greatest.ensures.is
