use Rattle.std.proofs.Common.{◌≡◌, ◌∙◌, List, Some, None, ap, sym}
use Rattle.update_chain.specs.declared.update.Update.{Update}
use Rattle.reconcile.specs.Shows.{shown_at}
use Rattle.leaf_chains.specs.Slots.{slot_of}
use Rattle.call_steps.specs.Looks.{write_found}
use Rattle.call_steps.proofs.Newest.{chain_in_slot, no_chain}
use Rattle.call_steps.proofs.looks.judge_write.Goals as goal

pub returns-in-None : goal.returns-in-None
returns-in-None c =
    let leaf = c.args.leaf.now in
    let key = c.args.key.now in
    let none : slot_of key leaf.chains ≡ None = ap (slot_of key) (sym c.chains.ensures) ∙ (sym c.find.ensures ∙ c.in-None.is) in
    c.judge_bare.ensures ∙ sym (ap (λ (l : List Update). write_found c.args.view.now c.args.demand l (shown_at key leaf.page)) (no_chain key leaf.chains none))

pub returns-in-Some : goal.returns-in-Some
returns-in-Some c =
    let leaf = c.args.leaf.now in
    let key = c.args.key.now in
    let there : slot_of key leaf.chains ≡ Some c.in-Some.slot = ap (slot_of key) (sym c.chains.ensures) ∙ (sym c.find.ensures ∙ c.in-Some.is) in
    c.judge_slot.ensures ∙ ap (λ (l : List Update). write_found c.args.view.now c.args.demand l (shown_at key leaf.page)) (chain_in_slot key leaf.chains c.in-Some.slot there)
