use Rattle.std.proofs.Common.{ℕ, List, subst}
use Rattle.tree_dir.specs.Leaves.{Directory, HasTable}
use Rattle.tree_dir_tests.proofs.TestTables.{no-other}
use Rattle.tree_dir_tests.proofs.tests.two_tables.Goals as goal

pub add_table-requires-2-clause-new : goal.add_table-requires-2-clause-new
add_table-requires-2-clause-new c =
    let new = c.add_table.new.self in
    let es = c.in_ok-three.field-0.items in
    let added = subst (λ (d : Directory). (ids : List ℕ) × HasTable d new 2 es ids) c.new-dir.ensures c.in_ok-add_table.ensures.added in
    no-other new 2 1 es added.0 added.1 (λ e. cc)
