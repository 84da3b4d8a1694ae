use Rattle.std.proofs.Common.{ℕ, Err, Ok, inl, inr, refl, subst}
use Rattle.engine.specs.Checkpoints.{MayStart}
use Rattle.ckpt_step.specs.Rooms.{known_in}
use Rattle.ckpt_step.proofs.Concluding.{refused}
use Rattle.ckpt_step.proofs.Floors.{follows_goes}
use Rattle.ckpt_step.proofs.WholeTaken.{started_goes, then_world, whole, whole_taken}
use Rattle.ckpt_step.proofs.taking.checkpoint.Goals as goal

pub returns-in-Err-clause-takes : goal.returns-in-Err-clause-takes
returns-in-Err-clause-takes g c h w stands idle keeps old on follows device =
    inl (refused g.D.Disk old w c.args.ground.now c.args.engine.now c.args.disk.now c.in-Err.refusal (λ x is. g.met.D.Disk.only_now _ x is)
    (elim (c.in-Err.ensures.refused w stands idle) [
      | inl barred ↦ inl (subst (λ (n : ℕ). MayStart w.machine n (Err c.in-Err.refusal)) on.number barred)
      | inr is ↦ inr (inl is)
    ])
    on follows device)

pub returns-in-Ok-clause-takes : goal.returns-in-Ok-clause-takes
returns-in-Ok-clause-takes g c h w stands idle keeps old on follows device =
    let stand = c.args.ground.now in
    let e = c.args.engine.now in
    let starts = c.in-Ok.ensures.starts w stands idle follows.respects in
    let may = subst (λ (n : ℕ). MayStart w.machine n (Ok tt)) on.number starts.may in
    let follows_then = follows_goes old e.hub.tables.tables stand.lives e.hub.dir.leaves (known_in stand.parts) stand.trees.items stand.floor w (then_world e stand w c.in-Ok.running starts) (started_goes w.machine) refl follows in
    whole_taken e stand w c.in-Ok.running starts g.D.Disk old c.finish.new.ground c.finish.new.engine c.args.disk.now c.finish.new.disk may c.finish.result
    (c.finish.ensures.finishes h (whole e stand w c.in-Ok.running starts) starts.stands starts.under_way refl keeps old on follows_then device)
