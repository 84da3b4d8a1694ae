use Rattle.std.proofs.Common.{◌∙◌, ap, refl}
use Rattle.script_run.specs.declared.kept.Kept.{Kept}
use Rattle.script_run.specs.Checkpointing.{checkpointing_by, checkpointing_of}
use Rattle.script_run.specs.Scripts.{actor_of}
use Rattle.script_run.proofs.one_line.reply_to_calling.Goals as goal

pub returns-in-None-clause-replies : goal.returns-in-None-clause-replies
returns-in-None-clause-replies g c = λ honest first s at same none.
    c.reply_to_free.ensures.replies honest first s at same (none, ap (λ (k : Kept). checkpointing_of (actor_of c.args.line) k.checkpointing) same ∙ c.in-None.ensures.none refl)

pub returns-in-Some-clause-replies : goal.returns-in-Some-clause-replies
returns-in-Some-clause-replies g c = λ honest first s at same none.
    c.turn_call.ensures.replies honest first s at same none c.in-Some.ensures.some.0 (ap (λ (k : Kept). checkpointing_by k.checkpointing c.in-Some.call.number) same ∙ c.in-Some.ensures.some.1)
