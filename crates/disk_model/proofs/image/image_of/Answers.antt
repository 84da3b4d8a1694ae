use Rattle.std.proofs.Common.{◌≡◌, ◌++◌, ◌+◌, [], ◌∷◌, List, ℕ, take, sym, ◌∙◌, ap, subst}
use Rattle.std.proofs.lemmas.List.{take_more}
use Rattle.disk_model.specs.Images.{Leaves}
use Rattle.disk_model.specs.Laws.{pushed_content, leaves_more}
use Rattle.disk_model.specs.declared.call.Call.{Call}
use Rattle.disk_model.proofs.image.image_of.Goals as goal

pub loop-call-preserved : goal.loop-call-preserved
loop-call-preserved c =
    let i = c.loop-call.call-index in
    let grows : take (i + 1) c.args.calls.now ≡ take i c.args.calls.now ++ c.call-item.result ∷ [] =
    take_more c.args.calls.now i c.call-item.result c.loop-call-test.true ∙ ap (λ (x : Call). take i c.args.calls.now ++ x ∷ []) (sym c.call-item.is) in
    let step : Leaves c.loop-call.content.items c.call-item.result c.loop-call.image.items c.in_ok-image-2.image.items =
    subst (λ (l : List ℕ). Leaves l c.call-item.result c.loop-call.image.items c.in_ok-image-2.image.items) c.deref.ensures.value c.in_ok-image-2.ensures in
    record {
      content_is = pushed_content _ _ _ _ _ _ c.loop-call.invariant.content_is grows c.in_ok-content-2.ensures;
      image_is = leaves_more _ _ _ _ _ _ _ grows c.loop-call.invariant.content_is c.loop-call.invariant.image_is step;
    }
