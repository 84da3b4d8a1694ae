use Rattle.script_run.proofs.CheckpointLines.{busy_called, finish_called, step_called}
use Rattle.script_run.proofs.Telling.{refused_faults, same_told}
use Rattle.script_run.proofs.checkpointing.turn_call.Goals as goal

pub returns-in-Step-clause-replies : goal.returns-in-Step-clause-replies
returns-in-Step-clause-replies g c = λ honest first s at same none its there.
    step_called g.D.Disk first s c.step_call.new.store c.step_call.new.disk c.step_call.result c.args.call.number c.args.call.stage c.step_call.new.kept c.args.line none its there _ c.in-Step.is (c.step_call.ensures.turns honest first s at same)

pub returns-in-Finish-clause-replies : goal.returns-in-Finish-clause-replies
returns-in-Finish-clause-replies g c = λ honest first s at same none its there.
    finish_called g.D.Disk first s c.end_call.new.store c.end_call.new.disk c.end_call.result c.args.call.number c.args.call.stage c.end_call.new.kept c.args.line none its there _ c.in-Finish.is (c.end_call.ensures.ends honest first s at same)

pub returns-in_default-clause-replies : goal.returns-in_default-clause-replies
returns-in_default-clause-replies g c = λ honest first s at same none its there.
    busy_called g.D.Disk first s c.args.store.now c.args.disk.now c.refused.result c.args.call.number c.args.call.stage c.args.kept.now c.args.line none its there at c.requires.now c.in_default.not-Step c.in_default.not-Finish c.refused.ensures.reply same

pub returns-in_default-clause-told : goal.returns-in_default-clause-told
returns-in_default-clause-told g c =
    refused_faults g.D.Disk c.args.store.now c.args.store.now c.args.disk.now c.args.disk.now _ c.refused.result c.refused.ensures.reply (λ fault. absurd cc) (same_told g.D.Disk c.args.store.now c.args.disk.now)
