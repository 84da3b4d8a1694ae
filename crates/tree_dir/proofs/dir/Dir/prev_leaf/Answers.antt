use Rattle.std.proofs.Common.{List, ◌∙◌, ap, sym, option_map}
use Rattle.ordered_groups.specs.Groups.{entries}
use Rattle.tree_dir.specs.declared.leaf.Leaf.{Leaf}
use Rattle.tree_dir.specs.Leaves.{Directory, leaf_ahead}
use Rattle.tree_dir.specs.Slots.{slot_by_id}
use Rattle.tree_dir.proofs.SlotIds.{slot-none}
use Rattle.tree_dir.proofs.ViewLemmas.{missing-ahead}
use Rattle.tree_dir.proofs.dir.Dir.prev_leaf.Goals as goal

pub returns-in_err-slot : goal.returns-in_err-slot
returns-in_err-slot c =
    let s = c.self.invariant in
    let slots = c.self.inside.slots.items in
    let none = sym (c.slot_of.ensures.found ∙ ap (λ (xs : List Leaf). slot_by_id c.args.leaf xs) c.deref.ensures.value) ∙ c.in_err-slot.was in
    let missing = missing-ahead slots (entries c.self.inside.order) c.args.leaf s.way s.home (slot-none slots c.args.leaf none) in
    rw c.from_residual.ensures (sym (ap (option_map (λ (l : Leaf). l.id)) (sym (ap (λ (d : Directory). leaf_ahead c.args.leaf d.leaves) c.self.view_is) ∙ missing)))
