use Rattle.std.proofs.Common.{◌∙◌, ap, false, option_map}
use Rattle.item.specs.Escapes.{unescaped}
use Rattle.dump_text.specs.Zeros.{zero_behind}
use Rattle.dump_text.proofs.EscapeRuns.{run_looked, zero_past_byte}
use Rattle.dump_text.proofs.unescape.ends_with_zero.Goals as goal

pub runs-preserved : goal.runs-preserved
runs-preserved c =
    let zero = c.zero_behind-zero.result in
    run_looked false c.args.text.now c.runs.zero zero c.runs.rest.now _ _ _ c.runs.invariant c.plain_text.ensures.plain c.split_at.ensures.front c.split_at.ensures.back c.zero_behind-zero.ensures
    ∙ ap (option_map (zero_behind zero)) c.in-Some.ensures.0
    ∙ zero_past_byte zero c.in-Some.b (unescaped c.in-Some.others.now)
