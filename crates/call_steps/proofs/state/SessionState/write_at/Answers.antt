use Rattle.std.proofs.Common.{◌≡◌, ◌∙◌, ap, refl, subst}
use Rattle.stamp.specs.declared.Name.{Name}
use Rattle.reconcile.specs.Shows.{shown_at}
use Rattle.leaf_chains.specs.Slots.{chain_at}
use Rattle.call_steps.specs.declared.looks.Found.TheVariants as found
use Rattle.call_steps.specs.Looks.{AcceptedBy}
use Rattle.call_steps.proofs.SlotWrites.{by_found, in_slot}
use Rattle.call_steps.proofs.WriteFinds.{free_found}
use Rattle.call_steps.proofs.state.SessionState.write_at.Goals as goal

pub accept-requires-clause-led : goal.accept-requires-clause-led
accept-requires-clause-led c =
    let leaf = c.args.leaf.now in
    let key = c.args.self.now.key in
    let own : c.as_bytes.result.now ≡ key = c.as_bytes.ensures ∙ ap (λ s. s.key) c.self.view_is in
    let is = in_slot c.args.view.now c.args.demand key c.as_bytes.result.now leaf c.args.slot c.judge_slot.result (found.Free c.in-Free.is_led) c.requires.slot own c.judge_slot.ensures c.in-Free.is in
    rw c.own_name.ensures (free_found c.args.view.now c.args.demand (chain_at key leaf.chains) (shown_at key leaf.page) c.in-Free.is_led is)

pub returns-in-Conflict : goal.returns-in-Conflict
returns-in-Conflict c =
    let leaf = c.args.leaf.now in
    let s = c.args.self.now in
    let own : c.as_bytes.result.now ≡ s.key = c.as_bytes.ensures ∙ ap (λ s. s.key) c.self.view_is in
    let f = found.Conflict c.in-Conflict.name in
    let is = in_slot c.args.view.now c.args.demand s.key c.as_bytes.result.now leaf c.args.slot c.judge_slot.result f c.requires.slot own c.judge_slot.ensures c.in-Conflict.is in
    by_found c.args.view.now c.args.call c.args.target c.args.demand c.args.update.version.change leaf s leaf c.conflict.new.self f is (refl, c.conflict.ensures)

pub returns-in-Unmet : goal.returns-in-Unmet
returns-in-Unmet c =
    let leaf = c.args.leaf.now in
    let s = c.args.self.now in
    let own : c.as_bytes.result.now ≡ s.key = c.as_bytes.ensures ∙ ap (λ s. s.key) c.self.view_is in
    let f = found.Unmet c.in-Unmet.refusal in
    let is = in_slot c.args.view.now c.args.demand s.key c.as_bytes.result.now leaf c.args.slot c.judge_slot.result f c.requires.slot own c.judge_slot.ensures c.in-Unmet.is in
    by_found c.args.view.now c.args.call c.args.target c.args.demand c.args.update.version.change leaf s leaf c.clear.new.self f is (refl, c.clear.ensures)

pub returns-in-Free : goal.returns-in-Free
returns-in-Free c =
    let leaf = c.args.leaf.now in
    let s = c.args.self.now in
    let own : c.as_bytes.result.now ≡ s.key = c.as_bytes.ensures ∙ ap (λ s. s.key) c.self.view_is in
    let change = c.args.update.version.change in
    let f = found.Free c.in-Free.is_led in
    let is = in_slot c.args.view.now c.args.demand s.key c.as_bytes.result.now leaf c.args.slot c.judge_slot.result f c.requires.slot own c.judge_slot.ensures c.in-Free.is in
    by_found c.args.view.now c.args.call c.args.target c.args.demand change leaf s c.accept.new.leaf c.accept.new.self f is
    (subst (λ (n : Name). AcceptedBy n c.args.call c.args.target change leaf s c.accept.new.leaf c.accept.new.self) c.own_name.ensures c.accept.ensures)
