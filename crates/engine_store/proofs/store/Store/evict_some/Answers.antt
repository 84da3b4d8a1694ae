use Rattle.std.proofs.Common.{refl}
use Rattle.engine_store.proofs.MakingRoom.{room_goes, room_joined, room_passed, still_alike, still_room}
use Rattle.engine_store.proofs.store.Store.evict_some.Goals as goal
use Rattle.engine_store.proofs.store.Store.evict_some.Goals.{in-Some+else-not-evict_leaf, in_default}

pub loop-init : goal.loop-init
loop-init g c = record { room = still_room g.D.Disk c.args.self.now c.args.self.now refl refl refl refl c.args.disk.now; alike = still_alike g.D.Disk c.args.self.now c.args.self.now refl refl refl refl c.args.disk.now }

pub loop-preserved : goal.loop-preserved
loop-preserved g c =
    let D = g.D.Disk in
    let begun = c.args.self.now in
    let first = c.args.disk.now in
    elim c.match-changed_by.branch [
      | in-Some+else-not-evict_leaf w ↦
          room_joined D begun first w.evict_leaf.new.self c.match-changed_by.self w.evict_leaf.new.disk c.match-changed_by.disk w.self-is w.disk-is
          (room_goes D begun c.loop.self _ first c.loop.disk c.loop.invariant refl refl refl refl w.evict_leaf.new.self w.evict_leaf.new.disk w.evict_leaf.ensures.room w.evict_leaf.ensures.alike)
      | in_default w ↦ room_joined D begun first _ c.match-changed_by.self c.loop.disk c.match-changed_by.disk w.self-is w.disk-is (room_passed D begun c.loop.self _ first c.loop.disk c.loop.invariant refl refl refl refl)
    ]

pub returns-then-left-eq0-clause-room : goal.returns-then-left-eq0-clause-room
returns-then-left-eq0-clause-room g c = c.loop.invariant.room

pub returns-then-left-eq0-clause-alike : goal.returns-then-left-eq0-clause-alike
returns-then-left-eq0-clause-alike g c = c.loop.invariant.alike

pub returns-then-not-evict_leaf-clause-room : goal.returns-then-not-evict_leaf-clause-room
returns-then-not-evict_leaf-clause-room g c =
    (room_goes g.D.Disk c.args.self.now c.loop.self _ c.args.disk.now c.loop.disk c.loop.invariant refl refl refl refl c.evict_leaf.new.self c.evict_leaf.new.disk c.evict_leaf.ensures.room c.evict_leaf.ensures.alike).room

pub returns-then-not-evict_leaf-clause-alike : goal.returns-then-not-evict_leaf-clause-alike
returns-then-not-evict_leaf-clause-alike g c =
    (room_goes g.D.Disk c.args.self.now c.loop.self _ c.args.disk.now c.loop.disk c.loop.invariant refl refl refl refl c.evict_leaf.new.self c.evict_leaf.new.disk c.evict_leaf.ensures.room c.evict_leaf.ensures.alike).alike
