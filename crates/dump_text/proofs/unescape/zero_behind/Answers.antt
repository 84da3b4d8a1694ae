use Rattle.std.proofs.Common.{◌∙◌, [], ap, sym}
use Rattle.dump_text.specs.Zeros.{zero_behind}
use Rattle.dump_text.proofs.EscapeRuns.{zero_at_end}
use Rattle.dump_text.proofs.unescape.zero_behind.Goals as goal

pub returns-in-Some : goal.returns-in-Some
returns-in-Some c = sym (ap (zero_behind c.args.before) c.in-Some.ensures.cases.0 ∙ zero_at_end c.args.before c.in-Some.field-0-1.now c.in-Some.last.now [])
