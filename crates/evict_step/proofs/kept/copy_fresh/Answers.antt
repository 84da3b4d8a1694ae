use Rattle.std.proofs.Common.{◌∙◌, ap}
use Rattle.std.proofs.lemmas.Bool.{eq-eqb, ne_eqb}
use Rattle.std.specs.Prelude.{Vec}
use Rattle.std.specs.declared.alloc.Global.{Global}
use Rattle.reconcile.specs.declared.image.Moved.{Moved}
use Rattle.evict_step.proofs.FreshLists.{copied_none, copied_one}
use Rattle.evict_step.proofs.kept.copy_fresh.Goals as goal
use Rattle.evict_step.proofs.kept.copy_fresh.Goals.{then-f-leaf+in_ok-push_copy, else-f-leaf}

pub loop-f-preserved : goal.loop-f-preserved
loop-f-preserved c =
    let fresh = c.args.fresh.now in
    let i = c.loop-f.f-index in
    let f = c.f-item.result in
    let before = c.args.copies.now.items in
    let now = c.loop-f.copies.items in
    elim c.if-f-leaf.branch [
      | then-f-leaf+in_ok-push_copy w ↦ ap (λ (v : Vec Moved Global). v.items) w.copies-is ∙ copied_one fresh i f c.args.leaf before now w.push_copy.new.copies.items c.loop-f-test.true c.f-item.is (eq-eqb f.leaf c.args.leaf w.if-f-leaf.true) c.loop-f.invariant w.in_ok-push_copy.ensures
      | else-f-leaf w ↦ ap (λ (v : Vec Moved Global). v.items) w.copies-is ∙ copied_none fresh i f c.args.leaf before now c.loop-f-test.true c.f-item.is (ne_eqb f.leaf c.args.leaf w.if-f-leaf.false) c.loop-f.invariant
    ]
