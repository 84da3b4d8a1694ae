use Rattle.std.proofs.Common.{◌∙◌, ap, sym}
use Rattle.engine.specs.declared.step.Actor.{Actor}
use Rattle.script_run.specs.Checkpointing.{checkpointing_of}
use Rattle.script_run.proofs.one_line.has_call.Goals as goal

pub returns-in-Session-clause-none : goal.returns-in-Session-clause-none
returns-in-Session-clause-none c = λ is. ap (λ (who : Actor). checkpointing_of who c.args.checkpointing.now) (sym c.actor_of.ensures ∙ c.in-Session.is)

pub returns-in-System-clause-none : goal.returns-in-System-clause-none
returns-in-System-clause-none c = λ is. ap (λ (who : Actor). checkpointing_of who c.args.checkpointing.now) (sym c.actor_of.ensures ∙ c.in-System.is) ∙ c.staged_call.ensures.none is
