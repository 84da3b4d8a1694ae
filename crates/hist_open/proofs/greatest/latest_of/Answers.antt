use Rattle.std.proofs.Common.{◌≡◌, ap, arith, rules}
use Rattle.std.specs.Prelude.{max}
use Rattle.std.proofs.lemmas.Grind.{common_steps}
use Rattle.stored.specs.HistoryTree.{HistoryRecord}
use Rattle.hist_open.proofs.Maxima.{record_durable_more}
use Rattle.hist_open.proofs.greatest.latest_of.Goals as goal

pub loop-of-preserved : goal.loop-of-preserved
loop-of-preserved c =
    let told : c.max-greatest.result ≡ max c.loop-of.greatest c.of.inside.version.window.durable = first_of (search rules, grind (arith, common_steps)) in
    record_durable_more c.args.records.now c.loop-of.of-index c.of-item.result c.loop-of.greatest c.of.inside.version.window.durable c.max-greatest.result c.loop-of-test.true c.of-item.is
    (ap (λ (e : HistoryRecord). e.version.window.durable) c.of.view_is) c.loop-of.invariant told
