use Rattle.dump_text.proofs.EscapeRuns.{written_on}
use Rattle.dump_text.proofs.escape.push_escaped.Goals as goal

pub runs-preserved : goal.runs-preserved
runs-preserved c =
    let i = c.runs.invariant in
    let w = written_on c.args.out.now.items c.runs.out.items _ _ i.done c.args.bytes.now c.runs.rest.now _ _ _ _ _ i.items i.text c.plain_front.ensures.plain c.split_at.ensures.front c.split_at.ensures.back c.in_ok-put.ensures.items
    c.in-Some.ensures.cases.0 c.in_ok-push_escape-in-Some.ensures.escape in
    record { done = w.0; items = w.1; text = w.2 }
