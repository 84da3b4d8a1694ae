use Rattle.std.proofs.Common.{◌∙◌, ap, refl}
use Rattle.kv_model.specs.Decisions.{is_there}
use Rattle.engine.specs.Turning.{evicting_by}
use Rattle.script_run.specs.declared.kept.Kept.{Kept}
use Rattle.script_run.specs.Scripts.{actor_of, eviction_of}
use Rattle.script_run.proofs.one_line.reply_to_call.Goals as goal

pub returns-in-None-clause-replies : goal.returns-in-None-clause-replies
returns-in-None-clause-replies g c = λ honest first s at same.
    c.reply_to_calling.ensures.replies honest first s at same (ap (λ (k : Kept). eviction_of (actor_of c.args.line) k.evicting) same ∙ c.in-None.ensures.none refl)

pub returns-in-Some-clause-replies : goal.returns-in-Some-clause-replies
returns-in-Some-clause-replies g c = λ honest first s at same.
    c.turn_evicting.ensures.replies honest first s at same c.in-Some.ensures.some.0 (ap (λ (k : Kept). is_there (evicting_by k.evicting c.in-Some.number)) same ∙ c.in-Some.ensures.some.1)
