use Rattle.std.proofs.Common.{◌∙◌, ap, arith, refl, sym, subst}
use Rattle.std.specs.Prelude.{option_copied}
use Rattle.stored.specs.TableTree.{Entry}
use Rattle.tree_write.proofs.LeafKeys.{keys_length, leaves_of}
use Rattle.wt_code.specs.declared.store_error.StoreError.{StoreError}
use Rattle.ckpt_step.specs.CutOuts.{NotPut}
use Rattle.ckpt_step.proofs.LedSteps.{given_back_led, moved_back_led, moved_out_led, sole_entry}
use Rattle.ckpt_step.proofs.OutSteps.{may_start, not_begun_out, not_begun_without}
use Rattle.ckpt_step.proofs.evicting.put_back.Goals as goal

pub returns-in-Err-clause-puts : goal.returns-in-Err-clause-puts
returns-in-Err-clause-puts g c h moved cut w stands runs old on follows device =
    let D = g.D.Disk in
    subst (λ (x : StoreError). NotPut D old w c.args.ground.now c.args.ground.now c.args.engine.now c.args.engine.now c.args.leaf c.args.disk.now c.is_within.new.disk x) (sym c.in-Err.ensures.err)
    (not_begun_out D c.args.disk.now c.is_within.new.disk c.is_within.ensures.looked (λ x is. g.met.D.Disk.only_now _ x is) old w c.args.ground.now c.args.engine.now c.args.leaf on follows device)

pub returns-in_default-clause-puts : goal.returns-in_default-clause-puts
returns-in_default-clause-puts g c h moved cut w stands runs old on follows device =
    not_begun_without g.D.Disk c.args.disk.now c.is_within.new.disk c.is_within.ensures.looked (λ x is. g.met.D.Disk.only_now _ x is) old w c.args.ground.now c.args.engine.now c.args.leaf on follows device

pub write_leaves-requires-clause-leaves : goal.write_leaves-requires-clause-leaves
write_leaves-requires-clause-leaves g c =
    let own = leaves_of c.args.images.now c.requires.cut.1.rows c.requires.cut.1.are in
    (own.leaves, own.spelled)

pub move_out-requires : goal.move_out-requires
move_out-requires g c = record { may = c.requires.cut.1.may }

pub index-entry-requires : goal.index-entry-requires
index-entry-requires g c =
    let one = keys_length c.in-Ok.low c.in-Ok-write_leaves.entries.items c.args.images.now c.in-Ok-write_leaves.ensures.keys ∙ c.requires.one in
    omega (arith, one, c.in-Ok-write_leaves.entries.ok.0)

pub returns-in-Ok-move_out-clause-puts : goal.returns-in-Ok-move_out-clause-puts
returns-in-Ok-move_out-clause-puts g c h moved cut w stands runs old on follows device =
    let D = g.D.Disk in
    let before = c.args.disk.now in
    let start = c.is_within.new.disk in
    let looked = c.is_within.ensures.looked in
    let own = leaves_of c.args.images.now cut.rows cut.are in
    let may = may_start D before start looked (λ x is. g.met.D.Disk.only_now _ x is) old w c.args.ground.now c.args.engine.now c.args.leaf on follows device in
    let wrote = c.in-Ok-write_leaves.ensures.writes own.leaves own.spelled (looked.same ∙ h) old may in
    let entry : Entry = record { key = c.index-entry.result.now.key; link = c.entry.inside.link } in
    let sole = sole_entry c.in-Ok-write_leaves.entries.items c.index-entry.result.now c.entry.inside.link (keys_length c.in-Ok.low c.in-Ok-write_leaves.entries.items c.args.images.now c.in-Ok-write_leaves.ensures.keys ∙ c.requires.one) c.index-entry.ensures (ap (λ (x : Entry). x.link) c.entry.view_is) in
    moved_out_led D before start looked (λ x is. g.met.D.Disk.only_now _ x is) old w c.args.ground.now c.args.engine.now c.args.leaf on follows device (option_copied c.args.running) c.args.images.now moved cut c.requires.one c.in-Ok.low c.in-Ok.ensures stands runs c.write_leaves.new.disk c.write_leaves.new.blocks
    c.in-Ok-write_leaves.entries.items entry sole c.in-Ok-write_leaves.ensures.fits wrote (c.in-Ok-write_leaves.ensures.ready (looked.same ∙ h) tt) c.in-Ok-write_leaves.ensures.held _ refl refl refl (record { slot = refl; number = refl; trees = refl; floor = refl; history = refl; kept = refl })
    c.move_out.new.engine c.move_out.new.ground c.in-Ok-move_out.ensures.left

pub returns-in-Ok-write_leaves-clause-puts : goal.returns-in-Ok-write_leaves-clause-puts
returns-in-Ok-write_leaves-clause-puts g c h moved cut w stands runs old on follows device =
    let D = g.D.Disk in
    let before = c.args.disk.now in
    let start = c.is_within.new.disk in
    let looked = c.is_within.ensures.looked in
    let own = leaves_of c.args.images.now cut.rows cut.are in
    let may = may_start D before start looked (λ x is. g.met.D.Disk.only_now _ x is) old w c.args.ground.now c.args.engine.now c.args.leaf on follows device in
    let wrote = c.in-Ok-write_leaves.ensures.writes own.leaves own.spelled (looked.same ∙ h) old may in
    let entry : Entry = record { key = c.index-entry.result.now.key; link = c.entry.inside.link } in
    let sole = sole_entry c.in-Ok-write_leaves.entries.items c.index-entry.result.now c.entry.inside.link (keys_length c.in-Ok.low c.in-Ok-write_leaves.entries.items c.args.images.now c.in-Ok-write_leaves.ensures.keys ∙ c.requires.one) c.index-entry.ensures (ap (λ (x : Entry). x.link) c.entry.view_is) in
    moved_back_led D before start looked (λ x is. g.met.D.Disk.only_now _ x is) old w c.args.ground.now c.args.engine.now c.args.leaf on follows device (option_copied c.args.running) c.args.images.now moved cut c.requires.one c.in-Ok.low c.in-Ok.ensures stands runs c.write_leaves.new.disk c.write_leaves.new.blocks
    c.in-Ok-write_leaves.entries.items entry sole c.in-Ok-write_leaves.ensures.fits wrote (c.in-Ok-write_leaves.ensures.ready (looked.same ∙ h) tt) c.in-Ok-write_leaves.ensures.held _ refl refl refl (record { slot = refl; number = refl; trees = refl; floor = refl; history = refl; kept = refl })
    c.move_out.new.engine c.move_out.new.ground c.in-Err-move_out.ensures.kept

pub returns-clause-puts : goal.returns-clause-puts
returns-clause-puts g c h moved cut w stands runs old on follows device =
    let D = g.D.Disk in
    let before = c.args.disk.now in
    let start = c.is_within.new.disk in
    let looked = c.is_within.ensures.looked in
    let own = leaves_of c.args.images.now cut.rows cut.are in
    let may = may_start D before start looked (λ x is. g.met.D.Disk.only_now _ x is) old w c.args.ground.now c.args.engine.now c.args.leaf on follows device in
    let back = c.in-Err-write_leaves.ensures.writes own.leaves own.spelled (looked.same ∙ h) old may in
    given_back_led D before start looked (λ x is. g.met.D.Disk.only_now _ x is) old w c.args.ground.now c.args.engine.now c.args.leaf on follows device (option_copied c.args.running) c.args.images.now moved cut c.requires.one c.in-Ok.low c.in-Ok.ensures stands runs c.write_leaves.new.disk c.write_leaves.new.blocks
    c.in-Err-write_leaves.error _ back (λ safe. c.in-Err-write_leaves.ensures.ready (looked.same ∙ h) safe) c.in-Err-write_leaves.ensures.held refl refl refl (record { slot = refl; number = refl; trees = refl; floor = refl; history = refl; kept = refl })
