use Rattle.std.proofs.Common.{◌∙◌, [], List, ap, inl, inr, length, refl, sym, subst}
use Rattle.std.specs.Prelude.{◌==◌, if◌then◌else◌, option_copied}
use Rattle.evict_step.specs.Cuts.{AreCut}
use Rattle.reconcile.specs.declared.image.Image.{Image}
use Rattle.evict_step.specs.Kept.{KeepsThese, Lists, list_of}
use Rattle.ckpt_step.proofs.KeptGround.{left_kept, refuses_kept, stands_kept}
use Rattle.ckpt_step.proofs.KeptLists.{kept_back}
use Rattle.ckpt_step.proofs.LedEnds.{stayed_led}
use Rattle.ckpt_step.proofs.OutEnds.{refused_out, told_engine}
use Rattle.ckpt_step.proofs.evicting.evict_whole.Goals as goal

-- ---- there was no memory for what moves

pub returns-in_default-clause-evicts : goal.returns-in_default-clause-evicts
returns-in_default-clause-evicts g c h w stands runs old on follows device =
    refuses_kept g.D.Disk old w c.args.ground.now c.args.ground.now c.args.engine.now c.args.engine.now c.args.leaf c.args.disk.now c.args.disk.now c.args.ground.now.kept c.keep.new.self _
    (inl (stayed_led g.D.Disk old w c.args.ground.now c.args.engine.now c.args.leaf c.args.disk.now (λ x is. g.met.D.Disk.only_now _ x is) on follows device, inr (inl refl)))

pub returns-in_default-clause-keeps : goal.returns-in_default-clause-keeps
returns-in_default-clause-keeps g c w stands keeps = subst (λ (l : Lists). KeepsThese w l) (sym c.in_default.ensures.same) keeps

-- ---- the leaf goes

pub put_back-requires-clause-cut : goal.put_back-requires-clause-cut
put_back-requires-clause-cut g c = (
  c.args.made.moved.items,
  subst (λ (l : List Image). AreCut c.args.engine.now (option_copied c.args.running) c.args.leaf l c.args.made.moved.items) (sym c.deref.ensures.value) c.requires.cut,
)

pub put_back-requires-clause-one : goal.put_back-requires-clause-one
put_back-requires-clause-one g c = ap (λ (l : List Image). length l) c.deref.ensures.value ∙ c.requires.one

pub returns-in-Ok-put_back-clause-evicts : goal.returns-in-Ok-put_back-clause-evicts
returns-in-Ok-put_back-clause-evicts g c h w stands runs old on follows device =
    let D = g.D.Disk in
    let before = c.args.disk.now in
    let stand = c.args.ground.now in
    let cut = subst (λ (l : List Image). AreCut c.args.engine.now (option_copied c.args.running) c.args.leaf l c.args.made.moved.items) (sym c.deref.ensures.value) c.requires.cut in
    record {
      moved = c.args.made.moved.items;
      left = left_kept D old w stand c.put_back.new.ground c.args.engine.now c.put_back.new.engine c.args.leaf before c.put_back.new.disk c.keep.new.self c.keep.new.self c.args.made.moved.items
          (c.in-Ok-put_back.ensures.puts h c.args.made.moved.items cut w stands runs old (stands_kept (D.seen before) (D.may_leave before) c.args.engine.now.hub stand old c.keep.new.self on) follows device);
      kept = λ id. ap (λ (l : Lists). list_of l id) c.put_back.ensures.history ∙ c.in-Ok.ensures.kept id;
    }

-- ---- it stays

pub returns-clause-evicts : goal.returns-clause-evicts
returns-clause-evicts g c h w stands runs old on follows device =
    let D = g.D.Disk in
    let before = c.args.disk.now in
    let stand = c.args.ground.now in
    let cut = subst (λ (l : List Image). AreCut c.args.engine.now (option_copied c.args.running) c.args.leaf l c.args.made.moved.items) (sym c.deref.ensures.value) c.requires.cut in
    refuses_kept D old w stand c.put_back.new.ground c.args.engine.now c.tell.new.engine c.args.leaf before c.put_back.new.disk c.keep.new.self c.forget.new.self c.tell.result
    (refused_out D old w (record stand { kept = c.keep.new.self }) c.put_back.new.ground c.args.engine.now c.tell.new.engine c.args.leaf before c.put_back.new.disk c.in-Err.error c.put_back.new.engine c.tell.result
    (c.in-Err.ensures.puts h c.args.made.moved.items cut w stands runs old (stands_kept (D.seen before) (D.may_leave before) c.args.engine.now.hub stand old c.keep.new.self on) follows device) c.in-Err.ensures.fault c.tell.ensures.tells)

pub returns-clause-engine : goal.returns-clause-engine
returns-clause-engine g c = told_engine c.args.engine.now c.put_back.new.engine c.tell.new.engine c.args.leaf c.in-Err.error c.tell.result c.in-Err.ensures.kept c.tell.ensures.tells

pub returns-clause-keeps : goal.returns-clause-keeps
returns-clause-keeps g c w stands keeps =
    kept_back c.args.engine.now w c.args.leaf c.args.ground.now.kept c.keep.new.self c.forget.new.self c.args.made.moved.items stands c.requires.cut.may c.in-Ok.ensures.kept
    (λ id. c.forget.ensures id ∙ ap (λ (l : Lists). if id == c.args.leaf then [] else list_of l id) c.put_back.ensures.history) keeps
