use Rattle.std.proofs.Common.{refl}
use Rattle.failure.specs.Counts.{Rose}
use Rattle.script_run.specs.declared.checkpointing.CheckpointTurn.{CheckpointTurn}
use Rattle.script_run.proofs.CheckpointLines.{finish_made, made_for, never, of_result, of_step, start_made, step_made}
use Rattle.script_run.proofs.checkpointing.make.Goals as goal

pub returns-in-Start-clause-runs : goal.returns-in-Start-clause-runs
returns-in-Start-clause-runs g c = λ honest first s at.
    made_for g.D.Disk first s c.start_checkpoint.new.self c.args.disk.now c.told_of.result c.args.turn CheckpointTurn.Start c.in-Start.is
    (start_made g.D.Disk first s c.args.store.now c.start_checkpoint.new.self c.args.disk.now c.args.disk.now at c.told_of.result c.told_of.ensures.formats c.start_checkpoint.ensures.frames refl c.start_checkpoint.result
    (c.start_checkpoint.ensures.starts c.args.disk.now honest first s.world s.first s.made at.held) c.start_checkpoint.ensures.same c.told_of.ensures.reply)

pub returns-in-Start-clause-told : goal.returns-in-Start-clause-told
returns-in-Start-clause-told g c = of_result g.D.Disk c.args.store.now c.start_checkpoint.new.self c.args.disk.now c.args.disk.now c.start_checkpoint.result c.told_of.result c.told_of.ensures.reply (never (Rose (g.D.Disk.faults c.args.disk.now) (g.D.Disk.faults c.args.disk.now)) c.start_checkpoint.result c.start_checkpoint.ensures.fault) (c.start_checkpoint.ensures.told c.args.disk.now)

pub returns-in-Step-clause-runs : goal.returns-in-Step-clause-runs
returns-in-Step-clause-runs g c = λ honest first s at.
    made_for g.D.Disk first s c.step_checkpoint.new.self c.args.disk.now c.told_remains.result c.args.turn CheckpointTurn.Step c.in-Step.is
    (step_made g.D.Disk first s c.args.store.now c.step_checkpoint.new.self c.args.disk.now c.args.disk.now at c.told_remains.result c.told_remains.ensures.formats c.step_checkpoint.ensures.frames refl c.step_checkpoint.result
    (c.step_checkpoint.ensures.steps c.args.disk.now honest first s.world s.first s.made at.held) c.step_checkpoint.ensures.same c.told_remains.ensures.reply)

pub returns-in-Step-clause-told : goal.returns-in-Step-clause-told
returns-in-Step-clause-told g c = of_step g.D.Disk c.args.store.now c.step_checkpoint.new.self c.args.disk.now c.args.disk.now c.step_checkpoint.result c.told_remains.result c.told_remains.ensures.reply c.step_checkpoint.ensures.refusals (c.step_checkpoint.ensures.told c.args.disk.now)

pub returns-in-Finish-clause-runs : goal.returns-in-Finish-clause-runs
returns-in-Finish-clause-runs g c = λ honest first s at.
    made_for g.D.Disk first s c.finish_checkpoint.new.self c.finish_checkpoint.new.disk c.told_of-in-Finish.result c.args.turn CheckpointTurn.Finish c.in-Finish.is
    (finish_made g.D.Disk first s c.args.store.now c.finish_checkpoint.new.self c.args.disk.now c.finish_checkpoint.new.disk at c.told_of-in-Finish.result c.told_of-in-Finish.ensures.formats c.finish_checkpoint.ensures.frames c.finish_checkpoint.result
    (c.finish_checkpoint.ensures.finishes honest first s.world s.first s.made at.held) c.told_of-in-Finish.ensures.reply)

pub returns-in-Finish-clause-told : goal.returns-in-Finish-clause-told
returns-in-Finish-clause-told g c = of_result g.D.Disk c.args.store.now c.finish_checkpoint.new.self c.args.disk.now c.finish_checkpoint.new.disk c.finish_checkpoint.result c.told_of-in-Finish.result c.told_of-in-Finish.ensures.reply c.finish_checkpoint.ensures.fault c.finish_checkpoint.ensures.told
