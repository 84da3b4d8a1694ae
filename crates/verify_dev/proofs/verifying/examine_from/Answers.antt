use Rattle.std.proofs.Common.{◌≡◌, ◌+◌, ◌∙◌, ap, length, subst, List}
use Rattle.stored.specs.HistoryTree.{HistoryRecord}
use Rattle.tree_open.specs.declared.place.Upper.{Upper}
use Rattle.verify_dev.specs.Leaves.{AreAllTallied}
use Rattle.verify_dev.proofs.Wholes.{reported, leaves_refused}
use Rattle.verify_dev.proofs.verifying.examine_from.Goals as goal

pub returns-clause-ok : goal.returns-clause-ok
returns-clause-ok g c h surveyed =
    let bytes = g.D.Disk.seen c.args.disk.now in
    let counted = c.in-Ok-with_records.counted in
    let more : counted.versions ≡ c.in-Ok.tally.versions + length c.args.whole.history.records.items = c.in-Ok-with_records.ensures.versions ∙ ap (λ (l : List HistoryRecord). c.in-Ok.tally.versions + length l) c.deref-2.ensures.value in
    reported bytes c.args.whole c.in-Ok.tally counted c.report_of-report.result surveyed (subst (λ (l : List Upper). AreAllTallied bytes l c.in-Ok.tally) c.deref.ensures.value (c.in-Ok.ensures.ok h)) c.in-Ok-with_records.ensures.leaves more
    c.report_of-report.ensures.tables c.report_of-report.ensures.leaves c.report_of-report.ensures.versions

pub returns-in-Err-clause-err : goal.returns-in-Err-clause-err
returns-in-Err-clause-err g c = leaves_refused _ _ (g.D.Disk.seen c.args.disk.now) c.args.whole c.deref.result.now c.in-Err.refusal c.deref.ensures.value c.in-Err.ensures.err
