use Rattle.engine_store.specs.EvictSteps.{steps_left}
use Rattle.engine.specs.Turning.{evicting_by}
use Rattle.engine_store.proofs.EvictTurns.{RestSoFar}
use Rattle.engine_store.proofs.store.Store.evict_rest.Given as goal

abbrev pub invariant-steps : goal.invariant-steps
invariant-steps g l = RestSoFar l.fn.self l.self l.fn.disk l.disk l.fn.evicting l.evicting l.number

abbrev pub decreases-steps : goal.decreases-steps
decreases-steps g l = steps_left l.self.engine (evicting_by l.evicting l.number)
