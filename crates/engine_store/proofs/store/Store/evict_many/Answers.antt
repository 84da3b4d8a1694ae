use Rattle.std.proofs.Common.{refl}
use Rattle.engine_store.proofs.MakingRoom.{alike_more, makes_more, still_alike, still_room}
use Rattle.engine_store.proofs.store.Store.evict_many.Goals as goal

pub returns-clause-room : goal.returns-clause-room
returns-clause-room g c =
    let some = c.evict_some.new.self in
    let disk = c.evict_some.new.disk in
    makes_more g.D.Disk c.args.self.now some _ c.args.disk.now disk disk c.evict_some.ensures.alike.disk.same c.evict_some.ensures.room (still_room g.D.Disk some _ refl refl refl refl disk)

pub returns-clause-alike : goal.returns-clause-alike
returns-clause-alike g c =
    let some = c.evict_some.new.self in
    let disk = c.evict_some.new.disk in
    alike_more g.D.Disk c.args.self.now some _ c.args.disk.now disk disk c.evict_some.ensures.alike (still_alike g.D.Disk some _ refl refl refl refl disk)
