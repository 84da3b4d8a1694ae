use Rattle.std.proofs.Common.{◌∙◌, Err, refl, sym}
use Rattle.engine_store.specs.Keeping.{with_kept}
use Rattle.engine_store.proofs.AsHeld.{up_as, writes_as}
use Rattle.engine_store.proofs.UnderWayStill.{runs_none}
use Rattle.engine_store.proofs.WritingOut.{leaf_alike, leaf_err, leaf_ok, leaf_short}
use Rattle.engine_store.proofs.store.Store.write_leaf.Goals as goal

pub returns-in-Ok-clause-writes : goal.returns-in-Ok-clause-writes
returns-in-Ok-clause-writes g c = λ h start w first made held.
    up_as g.D.Disk start w (with_kept c.args.self.now.ground.kept w).records first made c.args.self.now (record c.args.self.now { engine = c.write_out.new.engine; ground = c.write_out.new.ground }) c.args.disk.now c.write_out.new.disk
    (leaf_ok g.D.Disk start c.args.disk.now c.write_out.new.disk (λ later d left. g.met.D.Disk.counts_now _ _ d later left) (λ d left. g.met.D.Disk.only_now _ d left) (g.met.D.Disk.reads_an_image c.args.disk.now h)
    c.args.self.now (record c.args.self.now { engine = c.write_out.new.engine; ground = c.write_out.new.ground }) (with_kept c.args.self.now.ground.kept w) first made held c.write_out.ensures.disk c.downs_go.ensures c.requires.free c.requires.free c.write_out.ensures.history c.args.leaf c.write_out.result
    (λ old on follows device. c.write_out.ensures.writes h (with_kept c.args.self.now.ground.kept w) held.stands (runs_none c.args.self.now.ground c.args.self.now.running w.machine c.requires.free held.running) old on follows device) c.write_out.ensures.down c.in-Ok.field-0 c.in-Ok.is)

pub returns-in-Ok-clause-alike : goal.returns-in-Ok-clause-alike
returns-in-Ok-clause-alike g c = record {
  alike = leaf_alike c.args.self.now (record c.args.self.now { engine = c.write_out.new.engine; ground = c.write_out.new.ground }) refl refl c.write_out.ensures.number c.write_out.ensures.trees c.args.leaf c.write_out.result c.write_out.ensures.hub c.write_out.ensures.engine;
  fault = tt;
  disk = c.write_out.ensures.disk;
}

pub returns-then-is_short-clause-writes : goal.returns-then-is_short-clause-writes
returns-then-is_short-clause-writes g c = λ h start w first made held.
    up_as g.D.Disk start w (with_kept c.args.self.now.ground.kept w).records first made c.args.self.now (record c.args.self.now { engine = c.write_out.new.engine; ground = c.write_out.new.ground }) c.args.disk.now c.write_out.new.disk
    (leaf_short g.D.Disk start c.args.disk.now c.write_out.new.disk (λ later d left. g.met.D.Disk.counts_now _ _ d later left) (λ d left. g.met.D.Disk.only_now _ d left) (g.met.D.Disk.reads_an_image c.args.disk.now h)
    c.args.self.now (record c.args.self.now { engine = c.write_out.new.engine; ground = c.write_out.new.ground }) (with_kept c.args.self.now.ground.kept w) first made held c.write_out.ensures.disk c.downs_go.ensures c.requires.free c.requires.free c.write_out.ensures.history c.args.leaf c.write_out.result
    (λ old on follows device. c.write_out.ensures.writes h (with_kept c.args.self.now.ground.kept w) held.stands (runs_none c.args.self.now.ground c.args.self.now.running w.machine c.requires.free held.running) old on follows device) c.write_out.ensures.down c.in-Err.refusal c.in-Err.is (sym c.is_short.ensures ∙ c.if-is_short.true))

pub returns-then-is_short-clause-alike : goal.returns-then-is_short-clause-alike
returns-then-is_short-clause-alike g c = record {
  alike = leaf_alike c.args.self.now (record c.args.self.now { engine = c.write_out.new.engine; ground = c.write_out.new.ground }) refl refl c.write_out.ensures.number c.write_out.ensures.trees c.args.leaf c.write_out.result c.write_out.ensures.hub c.write_out.ensures.engine;
  fault = tt;
  disk = c.write_out.ensures.disk;
}

pub returns-else-is_short-clause-writes : goal.returns-else-is_short-clause-writes
returns-else-is_short-clause-writes g c = λ h start w first made held.
    writes_as g.D.Disk start w (with_kept c.args.self.now.ground.kept w).records first made c.args.self.now (record c.args.self.now { engine = c.write_out.new.engine; ground = c.write_out.new.ground }) c.args.disk.now c.write_out.new.disk (Err c.in-Err.refusal)
    (leaf_err g.D.Disk start c.args.disk.now c.write_out.new.disk (λ later d left. g.met.D.Disk.counts_now _ _ d later left) (λ d left. g.met.D.Disk.only_now _ d left) (g.met.D.Disk.reads_an_image c.args.disk.now h)
    c.args.self.now (record c.args.self.now { engine = c.write_out.new.engine; ground = c.write_out.new.ground }) (with_kept c.args.self.now.ground.kept w) first made held c.write_out.ensures.disk c.downs_go.ensures c.requires.free c.requires.free c.write_out.ensures.history c.args.leaf c.write_out.result
    (λ old on follows device. c.write_out.ensures.writes h (with_kept c.args.self.now.ground.kept w) held.stands (runs_none c.args.self.now.ground c.args.self.now.running w.machine c.requires.free held.running) old on follows device) c.write_out.ensures.down c.in-Err.refusal c.in-Err.is (sym c.is_short.ensures ∙ c.if-is_short.false))

pub returns-else-is_short-clause-alike : goal.returns-else-is_short-clause-alike
returns-else-is_short-clause-alike g c = record {
  alike = leaf_alike c.args.self.now (record c.args.self.now { engine = c.write_out.new.engine; ground = c.write_out.new.ground }) refl refl c.write_out.ensures.number c.write_out.ensures.trees c.args.leaf c.write_out.result c.write_out.ensures.hub c.write_out.ensures.engine;
  fault = c.in-Err.ensures.fault;
  disk = c.write_out.ensures.disk;
}
