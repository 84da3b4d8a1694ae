use Rattle.engine_store.specs.GoneOut.{GoOut}
use Rattle.engine_store.proofs.store.Store.turn.Given as goal

abbrev pub invariant-loop : goal.invariant-loop
invariant-loop g l = GoOut g.D.Disk l.fn.self l.self
