use Rattle.std.proofs.Common.{◌≡◌, ◌∙◌, Option, Some, None, ap, sym, subst}
use Rattle.wt_code.specs.declared.refusals.Invalid.{Invalid}
use Rattle.kv_model.specs.Machine.{of_some}
use Rattle.kv_model.specs.Refusals.{first_of}
use Rattle.call_steps.specs.HubEvents.{Made, beside, finds_at, item_checks, refuses_as}
use Rattle.call_steps.specs.Tables.{stage_of}
use Rattle.call_steps.proofs.hub_events.find_nothing.Goals as goal

pub returns-in-Some : goal.returns-in-Some
returns-in-Some c =
    let h = c.args.hub.now in
    let s = c.args.state.now in
    let wrong : first_of (item_checks s) ≡ Some c.in-Some.reason = sym c.wrong_items.ensures ∙ c.in-Some.is in
    let made : Made = (c.refuse.result, (h, c.refuse.new.self)) in
    subst (λ (o : Option Invalid). made ≡ of_some (finds_at h c.args.session s c.args.call (stage_of h.tables h.dir.leaves c.args.call s)) (λ reason. refuses_as reason h s) o) (sym wrong) (ap (beside h) c.refuse.ensures)

pub returns-in-None : goal.returns-in-None
returns-in-None c =
    let h = c.args.hub.now in
    let s = c.args.state.now in
    let well : first_of (item_checks s) ≡ None = sym c.wrong_items.ensures ∙ c.in-None.is in
    let made : Made = (c.refuse-in-None.result, (h, c.refuse-in-None.new.self)) in
    subst (λ (o : Option Invalid). made ≡ of_some (finds_at h c.args.session s c.args.call (stage_of h.tables h.dir.leaves c.args.call s)) (λ reason. refuses_as reason h s) o) (sym well)
    (ap (beside h) c.refuse-in-None.ensures ∙ ap (finds_at h c.args.session s c.args.call) (sym c.requires))
