use Rattle.std.proofs.Common.{Err, Ok, Some, subst, sym}
use Rattle.engine.specs.declared.running_checkpoint.RunningCheckpoint.{RunningCheckpoint}
use Rattle.ckpt_step.specs.Floors.{Respects}
use Rattle.ckpt_step.specs.Takes.{Starts}
use Rattle.engine_store.specs.Keeping.{with_kept}
use Rattle.engine_store.proofs.BarredNow.{starts_as, starts_barred, starts_err, starts_ok}
use Rattle.engine_store.proofs.UnderWayStill.{runs_none}
use Rattle.engine_store.proofs.store.Store.start_checkpoint.Goals as goal

pub returns-in-Err-clause-starts : goal.returns-in-Err-clause-starts
returns-in-Err-clause-starts g c = λ disk h start w first made held.
    let s = c.args.self.now in
    starts_as g.D.Disk start w (with_kept s.ground.kept w).records first made s s disk disk (Err c.in-Err.refusal)
    (starts_barred g.D.Disk start disk (g.met.D.Disk.reads_an_image disk h) s (with_kept s.ground.kept w) first made held c.in-Err.refusal c.in-Err.ensures.barred)

pub returns-in-Ok-start-clause-starts : goal.returns-in-Ok-start-clause-starts
returns-in-Ok-start-clause-starts g c = λ disk h start w first made held.
    let s = c.args.self.now in
    let there = with_kept s.ground.kept w in
    let u = c.begin.result in
    starts_as g.D.Disk start w there.records first made s (record s { running = Some u }) disk disk (Ok tt)
    (starts_ok g.D.Disk start disk (g.met.D.Disk.reads_an_image disk h) s there first made held c.in-Ok.ensures.free.0 u c.begin.ensures.progress
    (subst (λ (r : RunningCheckpoint). Respects there.machine s.ground.floor → Starts s.engine s.ground there r) (sym c.begin.ensures.checkpoint)
    (c.in-Ok-start.ensures.starts there held.stands (runs_none s.ground s.running there.machine c.in-Ok.ensures.free.1 held.running))))

pub returns-in-Err-start-clause-starts : goal.returns-in-Err-start-clause-starts
returns-in-Err-start-clause-starts g c = λ disk h start w first made held.
    let s = c.args.self.now in
    let there = with_kept s.ground.kept w in
    starts_as g.D.Disk start w there.records first made s s disk disk (Err c.in-Err-start.refusal)
    (starts_err g.D.Disk start disk (g.met.D.Disk.reads_an_image disk h) s there first made held c.in-Ok.ensures.free.0 c.in-Err-start.refusal
    (c.in-Err-start.ensures.refused there held.stands (runs_none s.ground s.running there.machine c.in-Ok.ensures.free.1 held.running)))
