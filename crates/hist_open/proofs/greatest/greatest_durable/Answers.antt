use Rattle.std.proofs.Common.{◌≡◌, ap, arith, rules}
use Rattle.std.specs.Prelude.{max}
use Rattle.std.proofs.lemmas.Grind.{common_steps}
use Rattle.stored.specs.HistoryTree.{HistoryEntry}
use Rattle.hist_open.proofs.Maxima.{durable_more}
use Rattle.hist_open.proofs.greatest.greatest_durable.Goals as goal

pub loop-entry-preserved : goal.loop-entry-preserved
loop-entry-preserved c =
    let told : c.max-greatest.result ≡ max c.loop-entry.greatest c.entry.inside.link.durable = first_of (search rules, grind (arith, common_steps)) in
    durable_more c.args.entries.now c.loop-entry.entry-index c.entry-item.result c.loop-entry.greatest c.entry.inside.link.durable c.max-greatest.result c.loop-entry-test.true c.entry-item.is
    (ap (λ (e : HistoryEntry). e.link.durable) c.entry.view_is) c.loop-entry.invariant told
