use Rattle.engine_store.specs.Fetches.{rounds_left}
use Rattle.engine_store.proofs.Rounds.{GoneOn}
use Rattle.engine_store.proofs.store.Store.end.Given as goal

abbrev pub invariant-loop-called : goal.invariant-loop-called
invariant-loop-called g l = GoneOn g.D.Disk l.fn.disk l.disk l.fn.self l.self l.fn.called l.called l.session

abbrev pub decreases-loop-called : goal.decreases-loop-called
decreases-loop-called g l = rounds_left l.called l.self.engine l.session
