use Rattle.inner_page.specs.Marks.{mark_seen}
use Rattle.hist_open.proofs.OneLeaf.{end_tells}
use Rattle.hist_open.proofs.leaf.end_before.Goals as goal

pub returns-in-Some : goal.returns-in-Some
returns-in-Some c =
    end_tells (mark_seen c.args.next.now) (mark_seen c.mark.result) c.args.records.now c.in-Some.end.now c.is_before.result c.requires c.in-Some.ensures.value c.mark.ensures c.is_before.ensures
