use Rattle.std.proofs.Common.{◌∙◌, Err, None, ap, inl, length, sym, refl, arith}
use Rattle.catalog.specs.Known.{Known}
use Rattle.txn_table.specs.Tabled.{Table as Txns}
use Rattle.ckpt_step.proofs.Staying.{no_fewer}
use Rattle.engine_store.specs.Closes.{rolled}
use Rattle.engine_store.specs.Keeping.{with_kept}
use Rattle.engine_store.proofs.AsHeld.{shuts_as}
use Rattle.engine_store.proofs.Closings.{checkpoint_rolled, closes_last, may_roll}
use Rattle.engine_store.proofs.KeptAnswers.{own_taken, own_then, told_own}
use Rattle.engine_store.proofs.Shutting.{is_rolled, shuts_by, shuts_refused}
use Rattle.engine_store.proofs.BarredNow.{barred_close, barred_told}
use Rattle.engine_store.proofs.UnderWayStill.{runs_none}
use Rattle.engine_store.proofs.store.Store.close.Goals as goal

pub checkpoint-requires-clause-run : goal.checkpoint-requires-clause-run
checkpoint-requires-clause-run g c = omega (arith, c.roll_back_all.ensures.goes.run, c.requires.ready.run)

pub checkpoint-requires-clause-trees : goal.checkpoint-requires-clause-trees
checkpoint-requires-clause-trees g c = omega (arith, no_fewer c.args.self.now.engine.hub.tables.tables c.roll_back_all.new.self.hub.tables.tables c.roll_back_all.ensures.goes.tables, c.requires.ready.trees)

pub returns-clause-closes : goal.returns-clause-closes
returns-clause-closes g c = λ h w st idle free keeps old on follows device.
    let D = g.D.Disk in
    let before = c.args.self.now in
    let middle = c.roll_back_all.new.self in
    let may = may_roll before.engine c.may_close.result c.in-Ok-may_close.field-0 c.may_close.ensures.told c.in-Ok-may_close.is w st free in
    let stands = c.roll_back_all.ensures.rolled_back w st may in
    let r = is_rolled (D.seen c.args.disk.now) (D.may_leave c.args.disk.now) old w before.ground before.engine middle c.roll_back_all.ensures.goes st stands on follows device in
    closes_last D old w before (record c.args.self.now { engine = c.checkpoint.new.engine; ground = c.checkpoint.new.ground }) c.args.disk.now c.checkpoint.new.disk c.checkpoint.result
    (record {
      may = may;
      middle = middle;
      stands = stands;
      takes = c.checkpoint.ensures.takes h (rolled w) stands (checkpoint_rolled w.machine ∙ free) keeps old r.on r.follows r.since;
    })

pub returns-clause-shuts : goal.returns-clause-shuts
returns-clause-shuts g c = λ h first_disk w first made held.
    let D = g.D.Disk in
    let there = with_kept c.args.self.now.ground.kept w in
    let before = c.args.self.now in
    let middle = c.roll_back_all.new.self in
    let may = may_roll before.engine c.may_close.result c.in-Ok-may_close.field-0 c.may_close.ensures.told c.in-Ok-may_close.is there held.stands (runs_none before.ground before.running w.machine c.in-Ok.ensures.free.1 held.running) in
    let stands = c.roll_back_all.ensures.rolled_back there held.stands may in
    shuts_as D first_disk w there.records first made before (record c.args.self.now { engine = c.checkpoint.new.engine; ground = c.checkpoint.new.ground }) c.args.disk.now c.checkpoint.new.disk c.checkpoint.result
    (shuts_by D first_disk c.args.disk.now (g.met.D.Disk.reads_an_image c.args.disk.now h) before there first made held c.in-Ok.ensures.free.1 may middle stands c.roll_back_all.ensures.goes
    c.checkpoint.new.disk (λ later d left. g.met.D.Disk.counts_now _ _ d later left) (λ d left. g.met.D.Disk.only_now _ d left) c.checkpoint.ensures.disk.later c.checkpoint.ensures.disk.room c.finishes_open.ensures.read c.downs_go.ensures
    (record c.args.self.now { engine = c.checkpoint.new.engine; ground = c.checkpoint.new.ground }) c.checkpoint.result c.in-Ok.ensures.free.1 c.checkpoint.ensures.lives c.checkpoint.ensures.history
    (λ old on follows device. c.checkpoint.ensures.takes h (rolled there) stands (checkpoint_rolled w.machine ∙ (runs_none before.ground before.running w.machine c.in-Ok.ensures.free.1 held.running)) held.kept old on follows device))

pub returns-clause-told : goal.returns-clause-told
returns-clause-told g c = λ start le.
    let before = c.args.self.now.engine in
    let middle = c.roll_back_all.new.self in
    told_own g.D.Disk None start c.args.disk.now c.checkpoint.new.disk c.checkpoint.ensures.disk before c.checkpoint.new.engine
    (own_then before middle c.checkpoint.new.engine c.roll_back_all.ensures.own (own_taken middle c.checkpoint.new.engine c.checkpoint.ensures.engine))

pub returns-clause-ready : goal.returns-clause-ready
returns-clause-ready g c = record {
  run = omega (arith, ap (λ (t : Txns). t.run) c.checkpoint.ensures.hub.1, c.roll_back_all.ensures.goes.run, c.requires.ready.run, c.checkpoint.ensures.run);
  trees = omega (arith, ap (λ (k : Known). length k.tables) c.checkpoint.ensures.hub.0, c.checkpoint.ensures.trees);
  low = c.checkpoint.ensures.low;
}

pub returns-in-Err-may_close-clause-shuts : goal.returns-in-Err-may_close-clause-shuts
returns-in-Err-may_close-clause-shuts g c = λ h first_disk w first made held.
    let before = c.args.self.now in
    shuts_as g.D.Disk first_disk w (with_kept before.ground.kept w).records first made before before c.args.disk.now c.args.disk.now (Err c.in-Err-may_close.refusal)
    (shuts_refused g.D.Disk first_disk c.args.disk.now (g.met.D.Disk.reads_an_image c.args.disk.now h) before (with_kept before.ground.kept w) first made held c.args.disk.now before c.in-Err-may_close.refusal
    (sym (c.may_close.ensures.told (with_kept before.ground.kept w) held.stands (runs_none before.ground before.running w.machine c.in-Ok.ensures.free.1 held.running)) ∙ c.in-Err-may_close.is) refl refl)

pub returns-in-Err-clause-closes : goal.returns-in-Err-clause-closes
returns-in-Err-clause-closes g c = λ h w st idle free keeps old on follows device.
    inl (record { why = barred_told c.args.self.now w c.in-Err.refusal st idle c.in-Err.ensures.barred; store = refl; disk = refl })

pub returns-in-Err-clause-shuts : goal.returns-in-Err-clause-shuts
returns-in-Err-clause-shuts g c = λ h first_disk w first made held.
    let before = c.args.self.now in
    let there = with_kept before.ground.kept w in
    let image = g.met.D.Disk.reads_an_image c.args.disk.now h in
    shuts_as g.D.Disk first_disk w there.records first made before before c.args.disk.now c.args.disk.now (Err c.in-Err.refusal)
    (shuts_refused g.D.Disk first_disk c.args.disk.now image before there first made held c.args.disk.now before c.in-Err.refusal
    (barred_close g.D.Disk first_disk c.args.disk.now image before there first made held c.in-Err.refusal c.in-Err.ensures.barred) refl refl)
