use Rattle.std.proofs.Common.{List, ◌∙◌, ap}
use Rattle.ordered_groups.specs.Groups.{entries}
use Rattle.tree_dir.specs.declared.leaf.Leaf.{Leaf}
use Rattle.tree_dir.specs.Leaves.{Directory, leaf_named}
use Rattle.tree_dir.specs.Slots.{leaf_by_id}
use Rattle.tree_dir.proofs.ViewLemmas.{by-id}
use Rattle.tree_dir.proofs.dir.Dir.leaf.Goals as goal

pub returns : goal.returns
returns c =
    let s = c.self.invariant in
    c.leaf_by_id.ensures
    ∙ (ap (λ (xs : List Leaf). leaf_by_id c.args.leaf xs) c.deref.ensures.value
    ∙ (by-id c.self.inside.slots.items (entries c.self.inside.order) c.args.leaf s.way s.home ∙ ap (λ (d : Directory). leaf_named c.args.leaf d.leaves) c.self.view_is))
