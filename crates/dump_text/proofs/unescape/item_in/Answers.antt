use Rattle.dump_text.proofs.EscapeRuns.{copied}
use Rattle.dump_text.proofs.unescape.item_in.Goals as goal

pub runs-preserved : goal.runs-preserved
runs-preserved c =
    copied c.args.text.now c.runs.out.items c.extend_from_slice.new.self.items c.extend_from_slice-in-runs.new.self.items c.runs.rest.now c.split_at.result.0.now c.split_at.result.1.now c.in-Some.others.now c.plain_text.result c.in-Some.b c.runs.invariant c.plain_text.ensures.plain c.split_at.ensures.front c.split_at.ensures.back c.in_ok-extend_from_slice.ensures.items c.in-Some.ensures.0
    c.in_ok-extend_from_slice-2.ensures.items
