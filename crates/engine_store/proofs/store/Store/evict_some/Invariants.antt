use Rattle.engine_store.proofs.MakingRoom.{RoomSoFar}
use Rattle.engine_store.proofs.store.Store.evict_some.Given as goal

abbrev pub invariant-loop : goal.invariant-loop
invariant-loop g l = RoomSoFar g.D.Disk l.fn.self l.self l.fn.disk l.disk
