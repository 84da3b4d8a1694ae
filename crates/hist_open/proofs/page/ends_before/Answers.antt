use Rattle.std.proofs.Common.{◌∙◌, ap}
use Rattle.stored.specs.HistoryTree.{HistoryEntry}
use Rattle.inner_page.specs.Marks.{mark_seen}
use Rattle.hist_open.proofs.OnePage.{end_tells}
use Rattle.hist_open.proofs.page.ends_before.Goals as goal

pub returns-in-Some : goal.returns-in-Some
returns-in-Some c =
    end_tells (mark_seen c.args.next.now) (mark_seen c.lent.result) c.args.page.now c.in-Some.end.now c.is_before.result c.requires c.in-Some.ensures.value
    (c.lent.ensures ∙ ap (λ (e : HistoryEntry). e.least) c.end.view_is) c.is_before.ensures
