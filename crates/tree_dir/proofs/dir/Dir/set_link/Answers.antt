use Rattle.std.proofs.Common.{◌∙◌, List, ap, refl}
use Rattle.ordered_groups.specs.Groups.{entries}
use Rattle.tree_dir.specs.declared.leaf.Leaf.{Leaf}
use Rattle.tree_dir.specs.Leaves.{Directory, changed, led_to}
use Rattle.tree_dir.specs.Slots.{leaves_at}
use Rattle.tree_dir.proofs.Changing.{changed-sound, changed-view, with-leaves}
use Rattle.tree_dir.proofs.dir.Dir.set_link.Goals as goal

pub invariant_of-self : goal.invariant_of-self
invariant_of-self c =
    rw c.set_link_in.ensures
    (changed-sound c.self.inside.serial c.self.inside.slots.items (entries c.self.inside.order) c.args.leaf (led_to c.args.link) (λ l. refl) (λ l. refl) c.self.invariant)

pub returns : goal.returns
returns c =
    let order = entries c.self.inside.order in
    let s = c.self.invariant in
    ap (λ (slots : List Leaf). with-leaves c.self.inside.serial (leaves_at slots order)) c.set_link_in.ensures
    ∙ (ap (with-leaves c.self.inside.serial) (changed-view c.self.inside.slots.items order c.args.leaf (led_to c.args.link) s.way s.home)
    ∙ ap (λ (d : Directory). record { next = d.next; leaves = changed c.args.leaf (led_to c.args.link) d.leaves }) c.self.view_is)
