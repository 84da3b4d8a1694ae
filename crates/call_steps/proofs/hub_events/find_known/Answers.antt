use Rattle.std.proofs.Common.{◌≡◌, ◌∙◌, Option, Some, None, ap, sym, subst}
use Rattle.wt_code.specs.declared.refusals.Invalid.{Invalid}
use Rattle.kv_model.specs.Machine.{of_some}
use Rattle.kv_model.specs.Refusals.{first_of}
use Rattle.call_steps.specs.HubEvents.{Made, beside, finds_at, item_checks, refuses_as}
use Rattle.call_steps.specs.Tables.{stage_of}
use Rattle.call_steps.proofs.Names.{known_name, only_lengths}
use Rattle.call_steps.proofs.hub_events.find_known.Goals as goal

pub returns-in-Some : goal.returns-in-Some
returns-in-Some c =
    let h = c.args.hub.now in
    let s = c.args.state.now in
    let named = known_name h.tables h.dir.leaves c.args.call s c.args.stage c.len-count.ensures.tables c.requires.known in
    let wrong : first_of (item_checks s) ≡ Some c.in-Some.reason = only_lengths s named ∙ (sym c.wrong_lengths.ensures ∙ c.in-Some.is) in
    let made : Made = (c.refuse.result, (h, c.refuse.new.self)) in
    subst (λ (o : Option Invalid). made ≡ of_some (finds_at h c.args.session s c.args.call (stage_of h.tables h.dir.leaves c.args.call s)) (λ reason. refuses_as reason h s) o) (sym wrong) (ap (beside h) c.refuse.ensures)

pub returns-in-None : goal.returns-in-None
returns-in-None c =
    let h = c.args.hub.now in
    let s = c.args.state.now in
    let named = known_name h.tables h.dir.leaves c.args.call s c.args.stage c.len-count.ensures.tables c.requires.known in
    let well : first_of (item_checks s) ≡ None = only_lengths s named ∙ (sym c.wrong_lengths.ensures ∙ c.in-None.is) in
    let made : Made = (c.go_to_leaf.result, (c.go_to_leaf.new.hub, c.go_to_leaf.new.state)) in
    subst (λ (o : Option Invalid). made ≡ of_some (finds_at h c.args.session s c.args.call (stage_of h.tables h.dir.leaves c.args.call s)) (λ reason. refuses_as reason h s) o) (sym well)
    (c.go_to_leaf.ensures ∙ ap (finds_at h c.args.session s c.args.call) (sym c.requires.known))
