use Rattle.engine.specs.Waits.{turns_in}
use Rattle.engine_store.proofs.BesideSteps.{GoneBeside}
use Rattle.engine_store.proofs.store.Store.end_beside.Given as goal

abbrev pub invariant-steps : goal.invariant-steps
invariant-steps g l = GoneBeside g.D.Disk l.fn.disk l.disk l.fn.self l.self l.evicting l.session

abbrev pub decreases-steps : goal.decreases-steps
decreases-steps g l = turns_in l.self.engine l.session
