use Rattle.script_text.specs.Words.{words_of}
use Rattle.script_run.specs.Scripts.{IsLater}
use Rattle.script_run.proofs.Holding.{not_later, printed_made}
use Rattle.script_run.proofs.Naming.{line-known}
use Rattle.std.specs.Prelude.{Ok}
use Rattle.script_run.specs.Faults.{RepliesFault}
use Rattle.script_run.specs.Runs.{PrintsFault}
use Rattle.script_run.proofs.Meeting.{printed_so}
use Rattle.script_run.proofs.Telling.{more_faults}
use Rattle.script_run.proofs.one_line.run_line.Goals as goal

pub reply_to-requires-clause-actor : goal.reply_to-requires-clause-actor
reply_to-requires-clause-actor g c =
    let is = (c.in-Ok-Some.ensures c.in-Ok-Some.line).0 c.in-Ok-Some.field-0-is in
    line-known c.in-Ok-Some.line (words_of c.args.text.now) is.spelled

pub returns-in-Err-reply_to-clause-made : goal.returns-in-Err-reply_to-clause-made
returns-in-Err-reply_to-clause-made g c = λ honest first s at same. let now = not_later c.is_later.result (IsLater c.in-Ok-Some.line) c.if-is_later.false c.is_later.ensures.1 in (
  c.in-Ok-Some.line,
  (c.in-Ok-Some.ensures c.in-Ok-Some.line).0 c.in-Ok-Some.field-0-is,
  now,
  c.in-Err-reply_to.ensures.replies honest first s at same,
)

pub returns-in-Err-reply_to-clause-damage : goal.returns-in-Err-reply_to-clause-damage
returns-in-Err-reply_to-clause-damage g c = λ honest at want found is. c.in-Err-reply_to.ensures.damage at want found is honest

pub returns-in-Ok-clause-made : goal.returns-in-Ok-clause-made
returns-in-Ok-clause-made g c = λ honest first s at same. let now = not_later c.is_later.result (IsLater c.in-Ok-Some.line) c.if-is_later.false c.is_later.ensures.1 in
    printed_made g.D.Disk first c.args.text.now s c.reply_to.new.store c.reply_to.new.disk c.reply_to.new.kept c.in-Ok-Some.line c.in-Ok.told c.print_of.result
    ((c.in-Ok-Some.ensures c.in-Ok-Some.line).0 c.in-Ok-Some.field-0-is) now (c.in-Ok.ensures.replies honest first s at same)
    c.print_of.ensures.line c.print_of.ensures.refusal c.print_of.ensures.short

pub returns-in-Ok-clause-told : goal.returns-in-Ok-clause-told
returns-in-Ok-clause-told g c =
    more_faults g.D.Disk c.args.store.now c.reply_to.new.store c.args.disk.now c.reply_to.new.disk (RepliesFault (Ok c.in-Ok.told)) (PrintsFault c.print_of.result)
    (printed_so c.print_of.result c.in-Ok.told c.print_of.ensures.refusal c.print_of.ensures.short) c.in-Ok.ensures.told
