use Rattle.std.proofs.Common.{◌≡◌, ◌∙◌, List, Some, ap, subst}
use Rattle.std.specs.Prelude.{IfSome, slice_get}
use Rattle.ordered_groups.specs.Groups.{entries}
use Rattle.leaf_chains.specs.declared.slot.KeyChain.{KeyChain}
use Rattle.leaf_chains.specs.Slots.{slot_of}
use Rattle.leaf_chains.proofs.Index.{own_slot}
use Rattle.leaf_chains.proofs.chains.LeafChains.slot.Goals as goal

pub returns-clause-own : goal.returns-clause-own
returns-clause-own c =
    let slots = c.self.inside.slots.items in
    let there = c.slot_in.ensures ∙ ap (λ (xs : List KeyChain). slice_get xs c.args.slot) c.as_slice.ensures.value in
    subst (λ (xs : List KeyChain). IfSome c.slot_in.result (λ s. slot_of s.now.key xs ≡ Some c.args.slot)) c.self.view_is (own_slot slots (entries c.self.inside.order) c.args.slot c.slot_in.result c.self.invariant.0 there)
