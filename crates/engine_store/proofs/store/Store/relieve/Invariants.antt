use Rattle.engine_world.specs.GivingWay.{IsIdle}
use Rattle.engine_store.specs.Relieves.{LetsGo}
use Rattle.engine_store.proofs.store.Store.relieve.Given as goal

abbrev pub invariant-loop-frame : goal.invariant-loop-frame
invariant-loop-frame g l = record { goes : LetsGo g.D.Disk l.initial.self l.self; idle : IsIdle l.self.engine }
