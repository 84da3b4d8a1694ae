use Rattle.std.proofs.Common.{◌∙◌, sym}
use Rattle.engine_store.specs.Keeping.{with_kept}
use Rattle.script_run.proofs.CheckpointLines.{whole_busy, whole_made}
use Rattle.script_run.proofs.Telling.{refused_faults, same_told}
use Rattle.script_run.proofs.checkpointing.run_checkpoint.Goals as goal

pub returns-then-has_started-clause-replies : goal.returns-then-has_started-clause-replies
returns-then-has_started-clause-replies g c = λ honest first s at same none.
    whole_busy g.D.Disk first s c.args.store.now c.args.disk.now c.refused.result c.args.asked.number c.args.asked.turn none at c.refused.ensures.formats
    (sym (c.has_started.ensures (with_kept c.args.store.now.ground.kept s.world) at.held.stands) ∙ c.if-has_started.true) c.refused.ensures.reply

pub returns-then-has_started-clause-told : goal.returns-then-has_started-clause-told
returns-then-has_started-clause-told g c =
    let store = c.args.store.now in
    let disk = c.args.disk.now in
    refused_faults g.D.Disk store store disk disk _ c.refused.result c.refused.ensures.reply (λ fault. absurd cc) (same_told g.D.Disk store disk)

pub returns-clause-replies : goal.returns-clause-replies
returns-clause-replies g c = λ honest first s at same none.
    whole_made g.D.Disk first s c.make.new.store c.make.new.disk c.make.result c.args.asked.number c.args.asked.turn none
    (sym (c.has_started.ensures (with_kept c.args.store.now.ground.kept s.world) at.held.stands) ∙ c.if-has_started.false) (c.make.ensures.runs honest first s at)
