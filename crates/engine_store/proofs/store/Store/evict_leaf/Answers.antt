use Rattle.std.proofs.Common.{refl}
use Rattle.engine_store.specs.Keeping.{with_kept}
use Rattle.engine_store.proofs.AsHeld.{room_as}
use Rattle.engine_store.proofs.MakingRoom.{leaf_alike, leaf_room}
use Rattle.engine_store.proofs.UnderWayStill.{runs_ground, runs_lent}
use Rattle.engine_store.proofs.store.Store.evict_leaf.Goals as goal

pub returns-in-Ok-clause-room : goal.returns-in-Ok-clause-room
returns-in-Ok-clause-room g c = λ h start w first made held.
    room_as g.D.Disk start w (with_kept c.args.self.now.ground.kept w).records first made c.args.self.now (record c.args.self.now { engine = c.evict.new.engine; ground = c.evict.new.ground }) c.args.disk.now c.evict.new.disk
    (leaf_room g.D.Disk start c.args.disk.now c.evict.new.disk (λ later d left. g.met.D.Disk.counts_now _ _ d later left) (λ d left. g.met.D.Disk.only_now _ d left) (g.met.D.Disk.reads_an_image c.args.disk.now h)
    c.args.self.now (record c.args.self.now { engine = c.evict.new.engine; ground = c.evict.new.ground }) refl refl (λ m runs. runs_ground c.args.self.now.ground c.evict.new.ground c.args.self.now.running m c.evict.ensures.number c.evict.ensures.floor runs) (with_kept c.args.self.now.ground.kept w) first made held c.evict.ensures.disk c.downs_go.ensures c.args.leaf c.evict.result
    (λ old on follows device. c.evict.ensures.evicts h (with_kept c.args.self.now.ground.kept w) held.stands (runs_lent c.args.self.now.ground c.args.self.now.running _ w.machine c.checkpoint_in-running.ensures held.running) old on follows device) c.evict.ensures.down (c.evict.ensures.keeps (with_kept c.args.self.now.ground.kept w) held.stands held.kept))

pub returns-in-Ok-clause-alike : goal.returns-in-Ok-clause-alike
returns-in-Ok-clause-alike g c =
    leaf_alike g.D.Disk c.args.self.now (record c.args.self.now { engine = c.evict.new.engine; ground = c.evict.new.ground }) c.args.disk.now c.evict.new.disk refl refl c.evict.ensures.number c.evict.ensures.trees c.evict.ensures.disk c.evict.ensures.hub c.args.leaf c.evict.result c.evict.ensures.engine

pub returns-in-Err-clause-room : goal.returns-in-Err-clause-room
returns-in-Err-clause-room g c = λ h start w first made held.
    room_as g.D.Disk start w (with_kept c.args.self.now.ground.kept w).records first made c.args.self.now (record c.args.self.now { engine = c.evict.new.engine; ground = c.evict.new.ground }) c.args.disk.now c.evict.new.disk
    (leaf_room g.D.Disk start c.args.disk.now c.evict.new.disk (λ later d left. g.met.D.Disk.counts_now _ _ d later left) (λ d left. g.met.D.Disk.only_now _ d left) (g.met.D.Disk.reads_an_image c.args.disk.now h)
    c.args.self.now (record c.args.self.now { engine = c.evict.new.engine; ground = c.evict.new.ground }) refl refl (λ m runs. runs_ground c.args.self.now.ground c.evict.new.ground c.args.self.now.running m c.evict.ensures.number c.evict.ensures.floor runs) (with_kept c.args.self.now.ground.kept w) first made held c.evict.ensures.disk c.downs_go.ensures c.args.leaf c.evict.result
    (λ old on follows device. c.evict.ensures.evicts h (with_kept c.args.self.now.ground.kept w) held.stands (runs_lent c.args.self.now.ground c.args.self.now.running _ w.machine c.checkpoint_in-running.ensures held.running) old on follows device) c.evict.ensures.down (c.evict.ensures.keeps (with_kept c.args.self.now.ground.kept w) held.stands held.kept))

pub returns-in-Err-clause-alike : goal.returns-in-Err-clause-alike
returns-in-Err-clause-alike g c =
    leaf_alike g.D.Disk c.args.self.now (record c.args.self.now { engine = c.evict.new.engine; ground = c.evict.new.ground }) c.args.disk.now c.evict.new.disk refl refl c.evict.ensures.number c.evict.ensures.trees c.evict.ensures.disk c.evict.ensures.hub c.args.leaf c.evict.result c.evict.ensures.engine
