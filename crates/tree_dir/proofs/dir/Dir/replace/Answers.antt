use Rattle.std.proofs.Common.{◌+◌, ◌∙◌, ℕ, List, ap, sym, subst, arith}
use Rattle.ordered_groups.specs.Groups.{entries}
use Rattle.tree_dir.specs.Leaves.{Directory, GaveWay, TakePlace}
use Rattle.tree_dir.specs.Slots.{slot_by_id}
use Rattle.tree_dir.proofs.GivenWay.{replaced-sound, replaced-way}
use Rattle.tree_dir.proofs.SlotIds.{slot-some}
use Rattle.tree_dir.proofs.Standing.{shown}
use Rattle.tree_dir.proofs.dir.Dir.replace.Goals as goal

pub invariant_of-self-2 : goal.invariant_of-self-2
invariant_of-self-2 c =
    let slots = c.self.inside.slots.items in
    let slot = slot-some slots c.args.leaf c.in-Some.slot (sym (c.in-Some.ensures.found ∙ ap (slot_by_id c.args.leaf) c.deref.ensures.value)) in
    let takes = subst (λ (d : Directory). TakePlace c.args.leaf c.args.leaves.items d.leaves) (sym c.self.view_is) c.requires in
    replaced-sound c.self.inside.serial slots c.replace_in.new.slots.items (entries c.self.inside.order) (entries c.replace_in.new.order) c.args.leaf c.in-Some.slot c.args.leaves.items
    c.self.invariant slot takes c.in_ok-replace_in.ensures.replaced (omega (arith, c.if-self-ge-SERIAL_MAX.false))

pub returns-clause-replaced : goal.returns-clause-replaced
returns-clause-replaced c =
    let slots = c.self.inside.slots.items in
    let slot = slot-some slots c.args.leaf c.in-Some.slot (sym (c.in-Some.ensures.found ∙ ap (slot_by_id c.args.leaf) c.deref.ensures.value)) in
    let takes = subst (λ (d : Directory). TakePlace c.args.leaf c.args.leaves.items d.leaves) (sym c.self.view_is) c.requires in
    let after = shown (c.self.inside.serial + 1) c.replace_in.new.slots.items (entries c.replace_in.new.order) in
    subst (λ (d : Directory). (ids : List ℕ) × GaveWay d after c.args.leaf c.args.leaves.items ids) c.self.view_is
    (replaced-way c.self.inside.serial slots c.replace_in.new.slots.items (entries c.self.inside.order) (entries c.replace_in.new.order) c.args.leaf c.in-Some.slot c.args.leaves.items
    c.self.invariant slot takes c.in_ok-replace_in.ensures.replaced (omega (arith, c.if-self-ge-SERIAL_MAX.false)))
