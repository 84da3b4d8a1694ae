use Rattle.std.proofs.Common.{◌∙◌, List, ap, arith, inl, inr, refl, sym, subst}
use Rattle.std.specs.Prelude.{option_copied}
use Rattle.evict_step.specs.declared.cut.CutOut.{CutOut}
use Rattle.evict_step.specs.Cuts.{AreCut, IsCutOut}
use Rattle.reconcile.specs.declared.image.Image.{Image}
use Rattle.evict_step.specs.Kept.{KeepsThese, Lists}
use Rattle.ckpt_step.proofs.LedEmpty.{left_empty, stayed_same}
use Rattle.ckpt_step.proofs.LedEnds.{down_led, stayed_led}
use Rattle.ckpt_step.proofs.OutCuts.{is_none, not_none}
use Rattle.ckpt_step.proofs.KeptLists.{keeps_none}
use Rattle.ckpt_step.specs.declared.ground.Ground.{Ground}
use Rattle.ckpt_step.proofs.evicting.evict.Goals as goal

pub returns-in-Some-clause-evicts : goal.returns-in-Some-clause-evicts
returns-in-Some-clause-evicts g c h w stands runs old on follows device =
    down_led g.D.Disk old w c.args.ground.now c.args.engine.now c.args.leaf c.args.disk.now (λ x is. g.met.D.Disk.only_now _ x is) on follows device c.in-Some.fault stands (sym c.in-Some.ensures)

pub returns-in_default-cut_out-clause-evicts : goal.returns-in_default-cut_out-clause-evicts
returns-in_default-cut_out-clause-evicts g c h w stands runs old on follows device =
    inl (stayed_led g.D.Disk old w c.args.ground.now c.args.engine.now c.args.leaf c.args.disk.now (λ x is. g.met.D.Disk.only_now _ x is) on follows device, inr (inl refl))

pub returns-in-Stays-clause-evicts : goal.returns-in-Stays-clause-evicts
returns-in-Stays-clause-evicts g c h w stands runs old on follows device = (
  stayed_led g.D.Disk old w c.args.ground.now c.args.engine.now c.args.leaf c.args.disk.now (λ x is. g.met.D.Disk.only_now _ x is) on follows device,
  inl (subst (λ (x : CutOut). IsCutOut c.args.engine.now (option_copied c.args.running) c.args.leaf x) c.in-Stays.is c.in-Ok.ensures),
)

pub returns-in-Unresolved-clause-evicts : goal.returns-in-Unresolved-clause-evicts
returns-in-Unresolved-clause-evicts g c h w stands runs old on follows device = (
  stayed_led g.D.Disk old w c.args.ground.now c.args.engine.now c.args.leaf c.args.disk.now (λ x is. g.met.D.Disk.only_now _ x is) on follows device,
  subst (λ (x : CutOut). IsCutOut c.args.engine.now (option_copied c.args.running) c.args.leaf x) c.in-Unresolved.is c.in-Ok.ensures w stands,
)

-- ---- it has no keys

pub leave_empty-requires : goal.leave_empty-requires
leave_empty-requires g c = record {
  cut = (
    option_copied c.args.running,
    c.in-Images.made.moved.items,
    subst (λ (l : List Image). AreCut c.args.engine.now (option_copied c.args.running) c.args.leaf l c.in-Images.made.moved.items) (is_none c.in-Images.made.images.items c.in-Images.made.images.len (sym c.in-Images.made.images.ok.0) (sym c.is_empty.ensures ∙ c.if-is_empty.true))
        (subst (λ (x : CutOut). IsCutOut c.args.engine.now (option_copied c.args.running) c.args.leaf x) c.in-Images.is c.in-Ok.ensures),
  );
}

pub returns-in-Ok-true-clause-evicts : goal.returns-in-Ok-true-clause-evicts
returns-in-Ok-true-clause-evicts g c h w stands runs old on follows device =
    let D = g.D.Disk in
    let moved = c.in-Images.made.moved.items in
    let cut = subst (λ (l : List Image). AreCut c.args.engine.now (option_copied c.args.running) c.args.leaf l moved) (is_none c.in-Images.made.images.items c.in-Images.made.images.len (sym c.in-Images.made.images.ok.0) (sym c.is_empty.ensures ∙ c.if-is_empty.true))
    (subst (λ (x : CutOut). IsCutOut c.args.engine.now (option_copied c.args.running) c.args.leaf x) c.in-Images.is c.in-Ok.ensures) in
    left_empty D old w c.args.engine.now c.leave_empty.new.engine c.args.ground.now c.leave_empty.new.ground c.args.leaf c.args.disk.now stands (option_copied c.args.running) runs
    (stayed_led D old w c.args.ground.now c.args.engine.now c.args.leaf c.args.disk.now (λ x is. g.met.D.Disk.only_now _ x is) on follows device) moved cut (c.in-Ok-true.ensures.left c.in-Ok-true.field-0-test)

pub returns-in-Ok-true-clause-engine : goal.returns-in-Ok-true-clause-engine
returns-in-Ok-true-clause-engine g c = let x = c.in-Ok-true.ensures.left c.in-Ok-true.field-0-test in (x.link, x.out)

pub returns-in-Ok-true-clause-keeps : goal.returns-in-Ok-true-clause-keeps
returns-in-Ok-true-clause-keeps g c w stands keeps =
    let x = c.in-Ok-true.ensures.left c.in-Ok-true.field-0-test in
    keeps_none c.args.engine.now w c.args.leaf c.args.ground.now.kept c.leave_empty.new.ground.kept stands x.out.may x.kept keeps

pub returns-in-Ok-false-clause-evicts : goal.returns-in-Ok-false-clause-evicts
returns-in-Ok-false-clause-evicts g c h w stands runs old on follows device =
    let D = g.D.Disk in
    let moved = c.in-Images.made.moved.items in
    let same = c.in-Ok-false.ensures.not c.in-Ok-false.field-0-test in (
      stayed_same D old w c.args.engine.now c.leave_empty.new.engine c.args.ground.now c.leave_empty.new.ground c.args.leaf c.args.disk.now same.0 same.1
          (stayed_led D old w c.args.ground.now c.args.engine.now c.args.leaf c.args.disk.now (λ x is. g.met.D.Disk.only_now _ x is) on follows device),
      record {
        running = option_copied c.args.running;
        runs = runs;
        moved = moved;
        cut = subst (λ (l : List Image). AreCut c.args.engine.now (option_copied c.args.running) c.args.leaf l moved) (is_none c.in-Images.made.images.items c.in-Images.made.images.len (sym c.in-Images.made.images.ok.0) (sym c.is_empty.ensures ∙ c.if-is_empty.true))
            (subst (λ (x : CutOut). IsCutOut c.args.engine.now (option_copied c.args.running) c.args.leaf x) c.in-Images.is c.in-Ok.ensures);
      },
    )

pub returns-in-Ok-false-clause-engine : goal.returns-in-Ok-false-clause-engine
returns-in-Ok-false-clause-engine g c = (c.in-Ok-false.ensures.not c.in-Ok-false.field-0-test).0

pub returns-in-Ok-false-clause-keeps : goal.returns-in-Ok-false-clause-keeps
returns-in-Ok-false-clause-keeps g c w stands keeps = subst (λ (l : Lists). KeepsThese w l) (sym (ap (λ (s : Ground). s.kept) (c.in-Ok-false.ensures.not c.in-Ok-false.field-0-test).1)) keeps

pub returns-in-Err-clause-evicts : goal.returns-in-Err-clause-evicts
returns-in-Err-clause-evicts g c h w stands runs old on follows device =
    let D = g.D.Disk in
    let same = c.in-Err.ensures.kept in
    inl (
      stayed_same D old w c.args.engine.now c.leave_empty.new.engine c.args.ground.now c.leave_empty.new.ground c.args.leaf c.args.disk.now same.0 same.1
          (stayed_led D old w c.args.ground.now c.args.engine.now c.args.leaf c.args.disk.now (λ x is. g.met.D.Disk.only_now _ x is) on follows device),
      inr (inl refl),
    )

pub returns-in-Err-clause-engine : goal.returns-in-Err-clause-engine
returns-in-Err-clause-engine g c = inl c.in-Err.ensures.kept.0

pub returns-in-Err-clause-keeps : goal.returns-in-Err-clause-keeps
returns-in-Err-clause-keeps g c w stands keeps = subst (λ (l : Lists). KeepsThese w l) (sym (ap (λ (s : Ground). s.kept) c.in-Err.ensures.kept.1)) keeps

-- ---- it has some

pub evict_whole-requires-clause-cut : goal.evict_whole-requires-clause-cut
evict_whole-requires-clause-cut g c = subst (λ (x : CutOut). IsCutOut c.args.engine.now (option_copied c.args.running) c.args.leaf x) c.in-Images.is c.in-Ok.ensures

pub part_out-requires-clause-cut : goal.part_out-requires-clause-cut
part_out-requires-clause-cut g c = subst (λ (x : CutOut). IsCutOut c.args.engine.now (option_copied c.args.running) c.args.leaf x) c.in-Images.is c.in-Ok.ensures

pub part_out-requires-clause-more : goal.part_out-requires-clause-more
part_out-requires-clause-more g c =
    let some = not_none c.in-Images.made.images.items c.in-Images.made.images.len (sym c.in-Images.made.images.ok.0) (sym c.is_empty.ensures ∙ c.if-is_empty.false) in
    let long = c.in-Images.made.images.ok.0 in let count = c.len.ensures in let more = c.if-len-eq1.false in omega (arith, some, long, count, more)
