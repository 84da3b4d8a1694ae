use Rattle.std.proofs.Common.{◌≢◌, ◌+◌, ℕ, List, sym, subst, arith}
use Rattle.std.specs.List.{All}
use Rattle.ordered_groups.specs.Groups.{entries}
use Rattle.tree_dir.specs.Leaves.{Directory, HasTable}
use Rattle.tree_dir.proofs.NewTable.{table-added, table-sound}
use Rattle.tree_dir.proofs.Standing.{shown}
use Rattle.tree_dir.proofs.dir.Dir.add_table.Goals as goal

pub invariant_of-self-2 : goal.invariant_of-self-2
invariant_of-self-2 c =
    let none = subst (λ (d : Directory). All (λ l. l.table ≢ c.args.table) d.leaves) (sym c.self.view_is) c.requires.new in
    table-sound c.self.inside.serial c.args.table c.self.inside.slots.items c.add_leaves.new.slots.items (entries c.self.inside.order) (entries c.add_leaves.new.order) c.args.leaves.items
    c.self.invariant none c.requires.leaves c.in_ok-add_leaves.ensures.added (omega (arith, c.if-self-ge-SERIAL_MAX.false))

pub returns-clause-added : goal.returns-clause-added
returns-clause-added c =
    let none = subst (λ (d : Directory). All (λ l. l.table ≢ c.args.table) d.leaves) (sym c.self.view_is) c.requires.new in
    let after = shown (c.self.inside.serial + 1) c.add_leaves.new.slots.items (entries c.add_leaves.new.order) in
    subst (λ (d : Directory). (ids : List ℕ) × HasTable d after c.args.table c.args.leaves.items ids) c.self.view_is
    (table-added c.self.inside.serial c.args.table c.self.inside.slots.items c.add_leaves.new.slots.items (entries c.self.inside.order) (entries c.add_leaves.new.order) c.args.leaves.items
    c.self.invariant none c.requires.leaves.climbs c.in_ok-add_leaves.ensures.added)
