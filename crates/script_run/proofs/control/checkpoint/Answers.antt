use Rattle.std.proofs.Common.{◌∙◌}
use Rattle.std.specs.Prelude.{Ok, Err}
use Rattle.script_run.proofs.Devices.{busy_by, checkpoint_busy, checkpoint_told}
use Rattle.script_run.proofs.Telling.{done_faults, refused_faults, same_told}
use Rattle.script_run.proofs.control.checkpoint.Goals as goal

pub returns-in-Ok-clause-replies : goal.returns-in-Ok-clause-replies
returns-in-Ok-clause-replies g c = λ honest first s at same.
    checkpoint_told g.D.Disk first s c.args.store.now c.args.disk.now at (busy_by s c.args.kept.now c.is_busy.result same (c.is_busy.ensures _ at.held.stands) ∙ c.if-is_busy.false) c.checkpoint.new.self c.checkpoint.new.disk c.checkpoint.ensures.frames c.checkpoint.ensures.running (Ok tt) c.done.result
    (c.in-Ok.ensures.takes honest first s.world s.first s.made at.held) c.done.ensures.reply c.done.ensures.formats

pub returns-in-Err-clause-replies : goal.returns-in-Err-clause-replies
returns-in-Err-clause-replies g c = λ honest first s at same.
    checkpoint_told g.D.Disk first s c.args.store.now c.args.disk.now at (busy_by s c.args.kept.now c.is_busy.result same (c.is_busy.ensures _ at.held.stands) ∙ c.if-is_busy.false) c.checkpoint.new.self c.checkpoint.new.disk c.checkpoint.ensures.frames c.checkpoint.ensures.running (Err c.in-Err.refusal) c.refused-in-Err.result
    (c.in-Err.ensures.takes honest first s.world s.first s.made at.held) c.refused-in-Err.ensures.reply c.refused-in-Err.ensures.formats

pub returns-then-is_busy-clause-replies : goal.returns-then-is_busy-clause-replies
returns-then-is_busy-clause-replies g c = λ honest first s at same.
    checkpoint_busy g.D.Disk first s c.args.store.now c.args.disk.now c.refused.result at (busy_by s c.args.kept.now c.is_busy.result same (c.is_busy.ensures _ at.held.stands) ∙ c.if-is_busy.true) c.refused.ensures.reply c.refused.ensures.formats

pub returns-then-is_busy-clause-told : goal.returns-then-is_busy-clause-told
returns-then-is_busy-clause-told g c =
    let store = c.args.store.now in
    let disk = c.args.disk.now in
    refused_faults g.D.Disk store store disk disk _ c.refused.result c.refused.ensures.reply (λ fault. absurd cc) (same_told g.D.Disk store disk)

pub returns-in-Ok-clause-told : goal.returns-in-Ok-clause-told
returns-in-Ok-clause-told g c = done_faults g.D.Disk c.args.store.now c.checkpoint.new.self c.args.disk.now c.checkpoint.new.disk c.done.result c.done.ensures.reply c.checkpoint.ensures.told

pub returns-in-Err-clause-told : goal.returns-in-Err-clause-told
returns-in-Err-clause-told g c =
    refused_faults g.D.Disk c.args.store.now c.checkpoint.new.self c.args.disk.now c.checkpoint.new.disk c.in-Err.refusal c.refused-in-Err.result c.refused-in-Err.ensures.reply c.in-Err.ensures.fault c.checkpoint.ensures.told
