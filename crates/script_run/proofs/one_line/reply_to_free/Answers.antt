use Rattle.std.proofs.Common.{sym, subst}
use Rattle.script_text.specs.declared.line.Line.{Line}
use Rattle.script_run.specs.Runs.{IsCallLine, IsOfKnown, IsTold}
use Rattle.script_run.specs.Scripts.{IsFree, actor_of}
use Rattle.script_run.proofs.Holding.{of_actor}
use Rattle.script_run.proofs.one_line.reply_to_free.Goals as goal

pub reply_to_whole-requires-clause-now : goal.reply_to_whole-requires-clause-now
reply_to_whole-requires-clause-now g c = subst IsCallLine c.in-Whole.is c.requires.now

pub reply_to_whole-requires-clause-actor : goal.reply_to_whole-requires-clause-actor
reply_to_whole-requires-clause-actor g c = subst IsOfKnown c.in-Whole.is c.requires.actor

pub reply_to_start-requires-clause-now : goal.reply_to_start-requires-clause-now
reply_to_start-requires-clause-now g c = subst IsCallLine c.in-Start.is c.requires.now

pub reply_to_start-requires-clause-actor : goal.reply_to_start-requires-clause-actor
reply_to_start-requires-clause-actor g c = subst IsOfKnown c.in-Start.is c.requires.actor

pub reply_to_actor-requires-clause-now : goal.reply_to_actor-requires-clause-now
reply_to_actor-requires-clause-now g c = of_actor c.args.line c.requires.now c.in_default.not-Whole c.in_default.not-Start

pub returns-in-Whole-clause-replies : goal.returns-in-Whole-clause-replies
returns-in-Whole-clause-replies g c = λ honest first s at same none.
    subst (λ (asked : Line). IsTold g.D.Disk first asked s c.reply_to_whole.new.store c.reply_to_whole.new.disk c.reply_to_whole.new.kept c.reply_to_whole.result) (sym c.in-Whole.is)
    (c.reply_to_whole.ensures.replies honest first s at same (subst (λ (asked : Line). IsFree (actor_of asked) s.kept) c.in-Whole.is none))

pub returns-in-Start-clause-replies : goal.returns-in-Start-clause-replies
returns-in-Start-clause-replies g c = λ honest first s at same none.
    subst (λ (asked : Line). IsTold g.D.Disk first asked s c.reply_to_start.new.store c.reply_to_start.new.disk c.reply_to_start.new.kept c.reply_to_start.result) (sym c.in-Start.is)
    (c.reply_to_start.ensures.replies honest first s at same (subst (λ (asked : Line). IsFree (actor_of asked) s.kept) c.in-Start.is none))
