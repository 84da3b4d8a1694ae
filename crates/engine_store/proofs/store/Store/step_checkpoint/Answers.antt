use Rattle.std.proofs.Common.{◌∙◌, Err, None, Some, ap, sym}
use Rattle.engine.specs.declared.running_checkpoint.RunningCheckpoint.{RunningCheckpoint}
use Rattle.engine_store.specs.Keeping.{with_kept}
use Rattle.engine_store.specs.Running.{checkpoint_of}
use Rattle.engine_store.proofs.CheckpointSteps.{steps_as, steps_by, steps_down, steps_none}
use Rattle.engine_store.proofs.store.Store.step_checkpoint.Goals as goal

pub returns-in-Some-clause-steps : goal.returns-in-Some-clause-steps
returns-in-Some-clause-steps g c = λ disk h start w first made held.
    let s = c.args.self.now in
    steps_as g.D.Disk start w (with_kept s.ground.kept w).records first made s s disk disk (Err _)
    (steps_down g.D.Disk start disk s (with_kept s.ground.kept w) first made held c.in-Some.fault (sym c.fault.ensures ∙ c.in-Some.is))

pub returns-in-None-clause-steps : goal.returns-in-None-clause-steps
returns-in-None-clause-steps g c = λ disk h start w first made held.
    let s = c.args.self.now in
    steps_as g.D.Disk start w (with_kept s.ground.kept w).records first made s s disk disk (Err _)
    (steps_none g.D.Disk start disk s (with_kept s.ground.kept w) first made held (sym c.fault.ensures ∙ c.in_default.is) c.in-None.is)

pub returns-in-Some-running-clause-steps : goal.returns-in-Some-running-clause-steps
returns-in-Some-running-clause-steps g c = λ disk h start w first made held.
    let s = c.args.self.now in
    let there = with_kept s.ground.kept w in
    let v = c.take.new.self in
    steps_as g.D.Disk start w there.records first made s (record s { running = Some v }) disk disk c.take.result
    (steps_by g.D.Disk start disk s there first made held (sym c.fault.ensures ∙ c.in_default.is) c.in-Some-running.running v c.in-Some-running.is
    c.take.ensures.checkpoint c.take.result (c.take.ensures.taken there held.stands) c.take.ensures.short)

pub returns-in-Some-running-clause-checkpoint : goal.returns-in-Some-running-clause-checkpoint
returns-in-Some-running-clause-checkpoint g c = ap (λ (r : RunningCheckpoint). Some r) c.take.ensures.checkpoint ∙ sym (ap checkpoint_of c.in-Some-running.is)
