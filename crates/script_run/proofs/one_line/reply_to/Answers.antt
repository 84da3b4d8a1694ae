use Rattle.std.proofs.Common.{sym, subst}
use Rattle.script_text.specs.declared.line.Line.{Line}
use Rattle.script_run.specs.Runs.{RepliedAs}
use Rattle.script_run.proofs.Holding.{call_line}
use Rattle.script_run.proofs.one_line.reply_to.Goals as goal

pub reply_to_call-requires-clause-now : goal.reply_to_call-requires-clause-now
reply_to_call-requires-clause-now g c = call_line c.args.line c.requires.now c.in_default.not-Control

pub returns-in-Control-clause-replies : goal.returns-in-Control-clause-replies
returns-in-Control-clause-replies g c = λ honest first s at same.
    subst (λ (asked : Line). RepliedAs g.D.Disk first asked s c.control.new.store c.control.new.disk c.control.new.kept c.control.result) (sym c.in-Control.is)
    (c.control.ensures.replies honest first s at same)
