use Rattle.std.proofs.Common.{◌≡◌, ◌∙◌, None, Ok, Err, Result, Vec, Global, ap, length, subst, sym, arith}
use Rattle.catalog.specs.Known.{Known}
use Rattle.ckpt_step.specs.Trees.{AreLow}
use Rattle.failure.specs.declared.Fault.{Fault}
use Rattle.tree_open.specs.declared.place.TreePlace.{TreePlace}
use Rattle.txn_table.specs.Tabled.{Table as Txns}
use Rattle.wt_code.specs.declared.refusals.Refusal.{Refusal}
use Rattle.wt_code.specs.declared.refusals.Refusal.TheVariants.{Panic}
use Rattle.engine_store.specs.Keeping.{with_kept}
use Rattle.engine_store.proofs.AsHeld.{checkpoints_as}
use Rattle.engine_store.proofs.KeptAnswers.{own_same, own_taken, own_then, told_own}
use Rattle.engine_store.proofs.BarredNow.{checkpoints_barred}
use Rattle.engine_store.proofs.CheckpointTaken.{checkpoints_by, relieved_by}
use Rattle.engine_store.proofs.UnderWayStill.{runs_none}
use Rattle.engine_store.proofs.store.Store.checkpoint.Goals as goal

not_down : (fault : Fault) (result : Result (Unit {0}) Refusal) → result ≡ Ok tt → result ≡ Err (Panic fault) → ⊥
not_down fault result done down = let e : Ok tt ≡ Err (Panic fault) = sym done ∙ down in cc

pub returns-in-Ok-checkpoint-clause-takes : goal.returns-in-Ok-checkpoint-clause-takes
returns-in-Ok-checkpoint-clause-takes g c = λ h first_disk w first made held.
    checkpoints_as g.D.Disk first_disk w (with_kept c.args.self.now.ground.kept w).records first made c.args.self.now c.relieve.new.self c.args.disk.now c.checkpoint.new.disk (Ok tt)
    (relieved_by g.D.Disk first_disk c.args.disk.now c.checkpoint.new.disk (λ later d left. g.met.D.Disk.counts_now _ _ d later left) (λ d left. g.met.D.Disk.only_now _ d left) (g.met.D.Disk.reads_an_image c.args.disk.now h)
    c.args.self.now c.relieve.new.self (with_kept c.args.self.now.ground.kept w) first made held c.in-Ok.ensures.free.1 (c.relieve.ensures.alike.running ∙ c.in-Ok.ensures.free.1) c.checkpoint.ensures.disk.later c.checkpoint.ensures.disk.room c.finishes_open.ensures.read c.downs_go.ensures c.checkpoints_have_newest.ensures c.checkpoint.new.ground c.checkpoint.new.engine
    (λ old on follows device. c.in-Ok-checkpoint.ensures.takes h (with_kept c.args.self.now.ground.kept w) held.stands (runs_none c.args.self.now.ground c.args.self.now.running w.machine c.in-Ok.ensures.free.1 held.running) held.kept old on follows device) (λ fault down. not_down fault c.checkpoint.result c.in-Ok-checkpoint.is (c.checkpoint.ensures.down fault down).0) c.args.self.now.running c.args.self.now.frames c.args.self.now.clock c.relieve.ensures c.checkpoint.ensures.history)

pub returns-in-Ok-checkpoint-clause-told : goal.returns-in-Ok-checkpoint-clause-told
returns-in-Ok-checkpoint-clause-told g c = λ start le.
    let taken = own_taken c.args.self.now.engine c.checkpoint.new.engine c.checkpoint.ensures.engine in
    let relieved = own_same c.checkpoint.new.engine c.relieve.new.self.engine c.relieve.ensures.alike.sessions in
    told_own g.D.Disk None start c.args.disk.now c.checkpoint.new.disk c.checkpoint.ensures.disk c.args.self.now.engine c.relieve.new.self.engine (own_then c.args.self.now.engine c.checkpoint.new.engine c.relieve.new.self.engine taken relieved)

pub returns-in-Ok-checkpoint-clause-ready : goal.returns-in-Ok-checkpoint-clause-ready
returns-in-Ok-checkpoint-clause-ready g c =
    let alike = c.relieve.ensures.alike in
    record {
      run = omega (arith, ap (λ (t : Txns). t.run) alike.txns, alike.number, ap (λ (t : Txns). t.run) c.checkpoint.ensures.hub.1, c.requires.ready.run, c.checkpoint.ensures.run);
      trees = omega (arith, ap (λ (v : Vec TreePlace Global). length v.items) alike.trees, ap (λ (k : Known). length k.tables) alike.tables, ap (λ (k : Known). length k.tables) c.checkpoint.ensures.hub.0, c.checkpoint.ensures.trees);
      low = subst (λ (v : Vec TreePlace Global). AreLow v.items) (sym alike.trees) c.checkpoint.ensures.low;
    }

pub returns-in-Err-checkpoint-clause-takes : goal.returns-in-Err-checkpoint-clause-takes
returns-in-Err-checkpoint-clause-takes g c = λ h first_disk w first made held.
    checkpoints_as g.D.Disk first_disk w (with_kept c.args.self.now.ground.kept w).records first made c.args.self.now (record c.args.self.now { engine = c.checkpoint.new.engine; ground = c.checkpoint.new.ground }) c.args.disk.now c.checkpoint.new.disk (Err c.in-Err-checkpoint.refusal)
    (checkpoints_by g.D.Disk first_disk c.args.disk.now c.checkpoint.new.disk (λ later d left. g.met.D.Disk.counts_now _ _ d later left) (λ d left. g.met.D.Disk.only_now _ d left) (g.met.D.Disk.reads_an_image c.args.disk.now h)
    c.args.self.now (record c.args.self.now { engine = c.checkpoint.new.engine; ground = c.checkpoint.new.ground }) (with_kept c.args.self.now.ground.kept w) first made held c.in-Ok.ensures.free.1 c.in-Ok.ensures.free.1 c.checkpoint.ensures.disk.later c.checkpoint.ensures.disk.room c.finishes_open.ensures.read c.downs_go.ensures (Err c.in-Err-checkpoint.refusal)
    (λ old on follows device. c.in-Err-checkpoint.ensures.takes h (with_kept c.args.self.now.ground.kept w) held.stands (runs_none c.args.self.now.ground c.args.self.now.running w.machine c.in-Ok.ensures.free.1 held.running) held.kept old on follows device) c.in-Err-checkpoint.ensures.down c.in-Err-checkpoint.ensures.lives c.checkpoint.ensures.history)

pub returns-in-Err-checkpoint-clause-told : goal.returns-in-Err-checkpoint-clause-told
returns-in-Err-checkpoint-clause-told g c = λ start le.
    told_own g.D.Disk None start c.args.disk.now c.checkpoint.new.disk c.checkpoint.ensures.disk c.args.self.now.engine c.checkpoint.new.engine (own_taken c.args.self.now.engine c.checkpoint.new.engine c.checkpoint.ensures.engine)

pub returns-in-Err-checkpoint-clause-ready : goal.returns-in-Err-checkpoint-clause-ready
returns-in-Err-checkpoint-clause-ready g c = record {
  run = omega (arith, ap (λ (t : Txns). t.run) c.checkpoint.ensures.hub.1, c.requires.ready.run, c.checkpoint.ensures.run);
  trees = omega (arith, ap (λ (k : Known). length k.tables) c.checkpoint.ensures.hub.0, c.checkpoint.ensures.trees);
  low = c.checkpoint.ensures.low;
}

pub returns-in-Err-clause-takes : goal.returns-in-Err-clause-takes
returns-in-Err-clause-takes g c = λ h first_disk w first made held.
    checkpoints_as g.D.Disk first_disk w (with_kept c.args.self.now.ground.kept w).records first made c.args.self.now c.args.self.now c.args.disk.now c.args.disk.now (Err c.in-Err.refusal)
    (checkpoints_barred g.D.Disk first_disk c.args.disk.now (g.met.D.Disk.reads_an_image c.args.disk.now h) c.args.self.now (with_kept c.args.self.now.ground.kept w) first made held c.in-Err.refusal c.in-Err.ensures.barred)
