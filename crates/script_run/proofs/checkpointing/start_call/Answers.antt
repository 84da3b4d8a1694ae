use Rattle.std.proofs.Common.{◌∙◌, sym}
use Rattle.std.specs.Prelude.{Some}
use Rattle.engine_store.specs.Keeping.{with_kept}
use Rattle.script_run.specs.declared.checkpointing.CheckpointStage.TheVariants.{Asked}
use Rattle.script_run.proofs.CheckpointLines.{kept_at, start_begun, start_busy}
use Rattle.script_run.proofs.EvictingLines.{start_faults}
use Rattle.script_run.proofs.Telling.{refused_faults, same_told}
use Rattle.script_run.proofs.checkpointing.start_call.Goals as goal

pub returns-then-has_started-clause-replies : goal.returns-then-has_started-clause-replies
returns-then-has_started-clause-replies g c = λ honest first s at same none.
    start_busy g.D.Disk first s c.args.store.now c.args.disk.now c.refused.result c.args.asked.number c.args.asked.turn none c.args.kept.now at
    (sym (c.has_started.ensures (with_kept c.args.store.now.ground.kept s.world) at.held.stands) ∙ c.if-has_started.true) c.refused.ensures.reply same

pub returns-then-has_started-clause-told : goal.returns-then-has_started-clause-told
returns-then-has_started-clause-told g c =
    let store = c.args.store.now in
    let disk = c.args.disk.now in
    refused_faults g.D.Disk store store disk disk _ c.refused.result c.refused.ensures.reply (λ fault. absurd cc) (same_told g.D.Disk store disk)

pub returns-clause-replies : goal.returns-clause-replies
returns-clause-replies g c = λ honest first s at same none.
    start_begun g.D.Disk first s c.args.store.now c.args.disk.now c.started.result c.args.asked.number c.args.asked.turn none _ at
    (sym (c.has_started.ensures (with_kept c.args.store.now.ground.kept s.world) at.held.stands) ∙ c.if-has_started.false) c.started.ensures.reply
    (kept_at s.kept c.args.kept.now c.args.asked.number (Some (Asked c.args.asked.turn)) c.put_call.new.checkpointing same c.put_call.ensures)

pub returns-clause-told : goal.returns-clause-told
returns-clause-told g c = start_faults g.D.Disk c.args.store.now c.args.disk.now c.started.result (λ fault. absurd (let e = sym c.started.ensures.reply ∙ fault in cc))
