use Rattle.std.proofs.Common.{ap, sym, ◌∙◌}
use Rattle.std.specs.Prelude.{Option, Some}
use Rattle.wt_code.specs.declared.refusals.Refusal.TheVariants as refusal
use Rattle.wt_code.specs.declared.refusals.Invalid.{Invalid}
use Rattle.kv_model.specs.Machine.{of_some}
use Rattle.engine.specs.Reads.{long_key}
use Rattle.engine.proofs.reads.refused_up.Goals as goal

pub returns-in-Some : goal.returns-in-Some
returns-in-Some c = sym (ap (λ (o : Option Invalid). of_some (long_key c.args.key.now) (λ reason. Some (refusal.Invalid reason)) o) (sym c.unless_running.ensures ∙ c.in-Some.is))

pub returns-in-None : goal.returns-in-None
returns-in-None c = c.long_key.ensures ∙ sym (ap (λ (o : Option Invalid). of_some (long_key c.args.key.now) (λ reason. Some (refusal.Invalid reason)) o) (sym c.unless_running.ensures ∙ c.in-None.is))
