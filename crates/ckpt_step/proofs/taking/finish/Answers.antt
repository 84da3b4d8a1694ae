use Rattle.std.proofs.Common.{◌≡◌, ◌∙◌, inl, inr, refl, sym}
use Rattle.ckpt_step.specs.Moments.{IsFinishing}
use Rattle.ckpt_step.proofs.CapturesBefore.{captures_under}
use Rattle.ckpt_step.proofs.Concluding.{concluded, engine_after, err_after, on_err_map, on_ok_of, unfinished}
use Rattle.ckpt_step.proofs.taking.finish.Goals as goal

pub returns-in-Some-clause-finishes : goal.returns-in-Some-clause-finishes
returns-in-Some-clause-finishes g c h n stands under cells keeps old on follows device =
    inl (unfinished g.D.Disk old n c.args.ground.now c.args.engine.now c.args.disk.now _ (λ x is. g.met.D.Disk.only_now _ x is) (inl (c.in-Some.fault, sym stands.fault ∙ sym c.in-Some.ensures, refl)) on follows device)

pub returns-then-not-may_follow-clause-finishes : goal.returns-then-not-may_follow-clause-finishes
returns-then-not-may_follow-clause-finishes g c h n stands under cells keeps old on follows device =
    inl (unfinished g.D.Disk old n c.args.ground.now c.args.engine.now c.args.disk.now _ (λ x is. g.met.D.Disk.only_now _ x is) (inr (inl refl)) on follows device)

pub returns-in_default-checkpoint_snapshot-clause-finishes : goal.returns-in_default-checkpoint_snapshot-clause-finishes
returns-in_default-checkpoint_snapshot-clause-finishes g c h n stands under cells keeps old on follows device =
    inl (unfinished g.D.Disk old n c.args.ground.now c.args.engine.now c.args.disk.now _ (λ x is. g.met.D.Disk.only_now _ x is) (inr (inl refl)) on follows device)

pub returns-clause-finishes : goal.returns-clause-finishes
returns-clause-finishes g c h n stands under cells keeps old on follows device =
    let running = c.args.running.now in
    let finishing : IsFinishing c.args.engine.now running c.args.ground.now.floor n = record {
      stands = stands;
      runs = under.runs;
      is = under.is;
      cells = cells;
      before = captures_under n.world.machine n.checkpoint running.snapshot.sight c.args.ground.now.floor under.is.sees under.above;
    } in
    concluded g.D.Disk old n c.args.ground.now c.write-outcome.new.ground c.args.engine.now c.conclude.new.engine c.args.disk.now c.write-outcome.new.disk c.write-outcome.result c.conclude.result
    (c.write-outcome.ensures.wrote h n finishing under.respects keeps old on follows device) c.write-outcome.ensures.fault c.conclude.ensures.concludes
    (on_ok_of c.conclude.result (c.conclude.ensures.stands n stands under.runs))

pub returns-clause-lives : goal.returns-clause-lives
returns-clause-lives g c = err_after (c.write-outcome.new.ground.lives ≡ c.args.ground.now.lives) c.args.engine.now c.conclude.new.engine c.write-outcome.result c.conclude.result c.conclude.ensures.concludes c.write-outcome.ensures.lives

pub returns-clause-number : goal.returns-clause-number
returns-clause-number g c = on_err_map (c.conclude.result) (λ same. same.0) (err_after ((c.write-outcome.new.ground.number ≡ c.args.ground.now.number) × (c.write-outcome.new.ground.floor ≡ c.args.ground.now.floor)) c.args.engine.now c.conclude.new.engine c.write-outcome.result c.conclude.result c.conclude.ensures.concludes c.write-outcome.ensures.same)

pub returns-clause-floor : goal.returns-clause-floor
returns-clause-floor g c = on_err_map (c.conclude.result) (λ same. same.1) (err_after ((c.write-outcome.new.ground.number ≡ c.args.ground.now.number) × (c.write-outcome.new.ground.floor ≡ c.args.ground.now.floor)) c.args.engine.now c.conclude.new.engine c.write-outcome.result c.conclude.result c.conclude.ensures.concludes c.write-outcome.ensures.same)

pub returns-clause-engine : goal.returns-clause-engine
returns-clause-engine g c = engine_after c.args.engine.now c.conclude.new.engine c.write-outcome.result c.conclude.result c.conclude.ensures.concludes
