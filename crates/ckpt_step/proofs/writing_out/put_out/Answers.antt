use Rattle.std.proofs.Common.{◌∙◌, List, refl, sym, ap, subst}
use Rattle.reconcile.specs.declared.image.Image.{Image}
use Rattle.tree_write.specs.Steps.{AreSpelled, part_keys}
use Rattle.wt_code.specs.declared.store_error.StoreError.{StoreError}
use Rattle.ckpt_step.specs.CutOuts.{NotPut}
use Rattle.ckpt_step.proofs.OutCuts.{may_take, own_images}
use Rattle.ckpt_step.proofs.OutSteps.{given_back, may_start, moved_back, moved_out, not_begun_out}
use Rattle.ckpt_step.proofs.writing_out.put_out.Goals as goal

pub returns-in-Err-clause-puts : goal.returns-in-Err-clause-puts
returns-in-Err-clause-puts g c h rows place w stands newest old on follows device =
    let D = g.D.Disk in
    subst (λ (x : StoreError). NotPut D old w c.args.ground.now c.args.ground.now c.args.engine.now c.args.engine.now c.args.leaf c.args.disk.now c.is_within.new.disk x) (sym c.in-Err.ensures.err)
    (not_begun_out D c.args.disk.now c.is_within.new.disk c.is_within.ensures.looked (λ x is. g.met.D.Disk.only_now _ x is) old w c.args.ground.now c.args.engine.now c.args.leaf on follows device)

pub write_leaves-requires-clause-leaves : goal.write_leaves-requires-clause-leaves
write_leaves-requires-clause-leaves g c =
    let own = own_images c.args.engine.now c.args.leaf c.args.cut.now c.requires.cut.0 c.requires.cut.1 in
    (own.leaves, subst (λ (l : List Image). AreSpelled l own.leaves) (sym c.deref.ensures.value) own.spelled)

pub move_in-requires-clause-place : goal.move_in-requires-clause-place
move_in-requires-clause-place g c =
    may_take c.args.engine.now c.args.leaf c.args.cut.now c.requires.cut.0 c.requires.cut.1 c.in-Ok.entries.items (c.in-Ok.ensures.keys ∙ ap (λ (l : List Image). part_keys c.args.cut.now.low l) c.deref.ensures.value)

pub returns-in-Ok-move_in-clause-puts : goal.returns-in-Ok-move_in-clause-puts
returns-in-Ok-move_in-clause-puts g c h rows place w stands newest old on follows device =
    let D = g.D.Disk in
    let before = c.args.disk.now in
    let start = c.is_within.new.disk in
    let looked = c.is_within.ensures.looked in
    let own = own_images c.args.engine.now c.args.leaf c.args.cut.now rows place in
    let spelled = subst (λ (l : List Image). AreSpelled l own.leaves) (sym c.deref.ensures.value) own.spelled in
    let keys = c.in-Ok.ensures.keys ∙ ap (λ (l : List Image). part_keys c.args.cut.now.low l) c.deref.ensures.value in
    let may = may_start D before start looked (λ x is. g.met.D.Disk.only_now _ x is) old w c.args.ground.now c.args.engine.now c.args.leaf on follows device in
    let wrote = c.in-Ok.ensures.writes own.leaves spelled (looked.same ∙ h) old may in
    moved_out D before start looked (λ x is. g.met.D.Disk.only_now _ x is) old w c.args.ground.now c.args.engine.now c.args.leaf on follows device c.args.cut.now rows place stands newest c.write_leaves.new.disk c.write_leaves.new.blocks
    c.in-Ok.entries.items wrote (c.in-Ok.ensures.ready (looked.same ∙ h) tt) c.in-Ok.ensures.held _ refl refl refl (record { slot = refl; number = refl; trees = refl; floor = refl; history = refl; kept = refl })
    c.leaves_give_way.ensures keys c.in-Ok.ensures.fits c.move_in.new.engine c.move_in.new.ground c.args.when c.in-Ok-move_in.ensures.moved

pub returns-in-Err-move_in-clause-puts : goal.returns-in-Err-move_in-clause-puts
returns-in-Err-move_in-clause-puts g c h rows place w stands newest old on follows device =
    let D = g.D.Disk in
    let before = c.args.disk.now in
    let start = c.is_within.new.disk in
    let looked = c.is_within.ensures.looked in
    let own = own_images c.args.engine.now c.args.leaf c.args.cut.now rows place in
    let spelled = subst (λ (l : List Image). AreSpelled l own.leaves) (sym c.deref.ensures.value) own.spelled in
    let may = may_start D before start looked (λ x is. g.met.D.Disk.only_now _ x is) old w c.args.ground.now c.args.engine.now c.args.leaf on follows device in
    let wrote = c.in-Ok.ensures.writes own.leaves spelled (looked.same ∙ h) old may in
    moved_back D before start looked (λ x is. g.met.D.Disk.only_now _ x is) old w c.args.ground.now c.args.engine.now c.args.leaf on follows device c.args.cut.now rows place stands newest c.write_leaves.new.disk c.write_leaves.new.blocks
    c.in-Ok.entries.items wrote (c.in-Ok.ensures.ready (looked.same ∙ h) tt) c.in-Ok.ensures.held _ refl refl refl (record { slot = refl; number = refl; trees = refl; floor = refl; history = refl; kept = refl })
    c.move_in.new.engine c.move_in.new.ground c.in-Err-move_in.ensures.kept

pub returns-in-Err-write_leaves-clause-puts : goal.returns-in-Err-write_leaves-clause-puts
returns-in-Err-write_leaves-clause-puts g c h rows place w stands newest old on follows device =
    let D = g.D.Disk in
    let before = c.args.disk.now in
    let start = c.is_within.new.disk in
    let looked = c.is_within.ensures.looked in
    let own = own_images c.args.engine.now c.args.leaf c.args.cut.now rows place in
    let spelled = subst (λ (l : List Image). AreSpelled l own.leaves) (sym c.deref.ensures.value) own.spelled in
    let may = may_start D before start looked (λ x is. g.met.D.Disk.only_now _ x is) old w c.args.ground.now c.args.engine.now c.args.leaf on follows device in
    let back = c.in-Err-write_leaves.ensures.writes own.leaves spelled (looked.same ∙ h) old may in
    given_back D before start looked (λ x is. g.met.D.Disk.only_now _ x is) old w c.args.ground.now c.args.engine.now c.args.leaf on follows device c.args.cut.now rows place stands newest c.write_leaves.new.disk c.write_leaves.new.blocks
    c.in-Err-write_leaves.error _ back (λ safe. c.in-Err-write_leaves.ensures.ready (looked.same ∙ h) safe) c.in-Err-write_leaves.ensures.held refl refl refl (record { slot = refl; number = refl; trees = refl; floor = refl; history = refl; kept = refl })
