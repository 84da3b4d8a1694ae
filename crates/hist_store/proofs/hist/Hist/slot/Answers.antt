use Rattle.std.proofs.Common.{◌≡◌, ◌∙◌, List, ap, subst}
use Rattle.std.specs.Prelude.{IfSome, slice_get}
use Rattle.ordered_groups.specs.Groups.{entries}
use Rattle.hist_store.specs.declared.key_history.KeyHistory.{KeyHistory}
use Rattle.hist_store.specs.Versions.{versions_of}
use Rattle.hist_store.proofs.Index.{own-descend, own-versions}
use Rattle.hist_store.proofs.hist.Hist.slot.Goals as goal

pub returns-clause-own : goal.returns-clause-own
returns-clause-own c =
    let slots = c.self.inside.slots.items in
    let there = c.slot_in.ensures ∙ ap (λ (xs : List KeyHistory). slice_get xs c.args.slot) c.as_slice.ensures.value in
    subst (λ (xs : List KeyHistory). IfSome c.slot_in.result (λ h. versions_of h.now.table h.now.key xs ≡ h.now.versions)) c.self.view_is (own-versions slots (entries c.self.inside.order) c.args.slot c.slot_in.result c.self.invariant.0 there)

pub returns-clause-descends : goal.returns-clause-descends
returns-clause-descends c =
    let slots = c.self.inside.slots.items in
    let there = c.slot_in.ensures ∙ ap (λ (xs : List KeyHistory). slice_get xs c.args.slot) c.as_slice.ensures.value in
    own-descend slots c.args.slot c.slot_in.result c.self.invariant.1 there
