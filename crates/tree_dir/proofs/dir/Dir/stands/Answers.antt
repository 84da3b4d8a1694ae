use Rattle.std.proofs.Common.{subst}
use Rattle.ordered_groups.specs.Groups.{entries}
use Rattle.tree_dir.specs.Leaves.{Directory, IsDirectory}
use Rattle.tree_dir.proofs.Standing.{stands}
use Rattle.tree_dir.proofs.dir.Dir.stands.Goals as goal

pub returns : goal.returns
returns c = subst (λ (d : Directory). IsDirectory d) c.self.view_is (stands c.self.inside.serial c.self.inside.slots.items (entries c.self.inside.order) c.self.invariant)
