use Rattle.std.specs.Prelude.{None}
use Rattle.std.proofs.Common.{subst, sym, ap, ◌∙◌}
use Rattle.script_run.proofs.CheckpointLines.{ends_so, kept_at, made_for, staged_here}
use Rattle.script_run.specs.Scripts.{staged_at}
use Rattle.script_run.specs.Checkpointing.{turn_of}
use Rattle.script_run.proofs.checkpointing.end_call.Goals as goal

pub returns-clause-ends : goal.returns-clause-ends
returns-clause-ends g c = λ honest first s at same.
    ends_so g.D.Disk first s c.make.new.store c.make.new.disk c.make.result c.args.call.number c.args.call.stage _ (kept_at s.kept c.args.kept.now c.args.call.number None c.put_call.new.checkpointing same c.put_call.ensures)
    (made_for g.D.Disk first (staged_at s c.args.call.number None) c.make.new.store c.make.new.disk c.make.result (turn_of c.args.call.stage) c.turn_of.result (sym c.turn_of.ensures)
    (c.make.ensures.runs honest first (staged_at s c.args.call.number None) (staged_here g.D.Disk first s c.args.store.now c.args.disk.now at c.args.call.number None)))
