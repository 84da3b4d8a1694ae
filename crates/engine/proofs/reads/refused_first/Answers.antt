use Rattle.std.proofs.Common.{ap, sym, ◌∙◌, Bool}
use Rattle.std.specs.Prelude.{Some, if◌then◌else◌}
use Rattle.wt_code.specs.declared.refusals.Refusal.TheVariants as refusal
use Rattle.wt_code.specs.declared.refusals.Invalid.TheVariants as invalid
use Rattle.txn_table.specs.declared.phase.Phase.{Phase}
use Rattle.engine.specs.Reads.{refused_idle}
use Rattle.engine.proofs.reads.refused_first.Goals as goal

pub returns-then-is_at_work : goal.returns-then-is_at_work
returns-then-is_at_work c = sym (ap (λ (b : Bool). if b then Some (refusal.Invalid invalid.InCall) else refused_idle c.args.hub.now.fault c.args.state.now.phase c.args.key.now) (sym c.is_at_work.ensures ∙ c.if-is_at_work.true))

pub returns : goal.returns
returns c = c.refused_idle.ensures ∙ (ap (λ (p : Phase). refused_idle c.args.hub.now.fault p c.args.key.now) c.phase.ensures
    ∙ sym (ap (λ (b : Bool). if b then Some (refusal.Invalid invalid.InCall) else refused_idle c.args.hub.now.fault c.args.state.now.phase c.args.key.now) (sym c.is_at_work.ensures ∙ c.if-is_at_work.false)))
