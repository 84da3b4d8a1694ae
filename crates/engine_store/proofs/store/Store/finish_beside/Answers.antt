use Rattle.std.proofs.Common.{sym, subst}
use Rattle.engine.specs.declared.step.Actor.{Actor}
use Rattle.engine_store.specs.Beside.{FinishedBeside}
use Rattle.engine_store.specs.Calls.{Holding}
use Rattle.engine_store.proofs.BesideSteps.{finished_beside}
use Rattle.engine_store.proofs.store.Store.finish_beside.Goals as goal

pub returns-then-not-are_any-clause-finished : goal.returns-then-not-are_any-clause-finished
returns-then-not-are_any-clause-finished g c = finished_beside g.D.Disk c.args.self.now c.finish.new.self c.args.disk.now c.finish.new.disk c.args.evicting.now c.args.actor c.finish.result c.finish.ensures.finished

pub returns-in-Session-clause-finished : goal.returns-in-Session-clause-finished
returns-in-Session-clause-finished g c =
    subst (λ (who : Actor). Holding g.D.Disk c.args.self.now c.args.disk.now (λ start w first made. FinishedBeside g.D.Disk start w first made c.args.self.now c.end_beside.new.self c.args.disk.now c.end_beside.new.disk c.args.evicting.now who c.end_beside.result)) (sym c.in-Session.is)
    c.end_beside.ensures.finished

pub returns-in-System-clause-finished : goal.returns-in-System-clause-finished
returns-in-System-clause-finished g c = finished_beside g.D.Disk c.args.self.now c.finish_through.new.self c.args.disk.now c.finish_through.new.disk c.args.evicting.now c.args.actor c.finish_through.result c.finish_through.ensures.finished
