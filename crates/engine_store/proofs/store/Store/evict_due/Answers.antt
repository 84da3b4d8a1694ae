use Rattle.std.proofs.Common.{refl}
use Rattle.engine_store.proofs.MakingRoom.{alike_more, makes_more, still_alike, still_room}
use Rattle.engine_store.proofs.store.Store.evict_due.Goals as goal

pub returns-then-take_over-clause-room : goal.returns-then-take_over-clause-room
returns-then-take_over-clause-room g c =
    let disk = c.args.disk.now in
    makes_more g.D.Disk c.args.self.now _ c.evict_over.new.self disk disk c.evict_over.new.disk refl (still_room g.D.Disk c.args.self.now _ refl refl refl refl disk) c.evict_over.ensures.room

pub returns-then-take_over-clause-alike : goal.returns-then-take_over-clause-alike
returns-then-take_over-clause-alike g c =
    let disk = c.args.disk.now in
    alike_more g.D.Disk c.args.self.now _ c.evict_over.new.self disk disk c.evict_over.new.disk (still_alike g.D.Disk c.args.self.now _ refl refl refl refl disk) c.evict_over.ensures.alike

pub returns-then-count_call-clause-room : goal.returns-then-count_call-clause-room
returns-then-count_call-clause-room g c =
    let disk = c.args.disk.now in
    makes_more g.D.Disk c.args.self.now _ c.evict_many.new.self disk disk c.evict_many.new.disk refl (still_room g.D.Disk c.args.self.now _ refl refl refl refl disk) c.evict_many.ensures.room

pub returns-then-count_call-clause-alike : goal.returns-then-count_call-clause-alike
returns-then-count_call-clause-alike g c =
    let disk = c.args.disk.now in
    alike_more g.D.Disk c.args.self.now _ c.evict_many.new.self disk disk c.evict_many.new.disk (still_alike g.D.Disk c.args.self.now _ refl refl refl refl disk) c.evict_many.ensures.alike

pub returns-else-count_call-clause-room : goal.returns-else-count_call-clause-room
returns-else-count_call-clause-room g c = still_room g.D.Disk c.args.self.now _ refl refl refl refl c.args.disk.now

pub returns-else-count_call-clause-alike : goal.returns-else-count_call-clause-alike
returns-else-count_call-clause-alike g c = still_alike g.D.Disk c.args.self.now _ refl refl refl refl c.args.disk.now
