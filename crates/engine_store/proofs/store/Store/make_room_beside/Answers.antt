use Rattle.engine_store.proofs.MakingRoom.{still_room}
use Rattle.std.proofs.Common.{refl}
use Rattle.engine_store.proofs.store.Store.make_room_beside.Goals as goal

pub returns-else-not-are_any-clause-room : goal.returns-else-not-are_any-clause-room
returns-else-not-are_any-clause-room g c = still_room g.D.Disk c.args.self.now c.args.self.now refl refl refl refl c.args.disk.now
