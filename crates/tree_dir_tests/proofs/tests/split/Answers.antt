use Rattle.std.proofs.Common.{◌∷◌, [], ℕ, List, subst}
use Rattle.tree_dir.specs.Leaves.{Directory, HasTable}
use Rattle.tree_dir_tests.proofs.TestTables.{takes-place}
use Rattle.tree_dir_tests.proofs.tests.split.Goals as goal

pub replace-requires : goal.replace-requires
replace-requires c =
    let new = c.add_table.new.self in
    let es = c.in_ok-one.field-0.items in
    let added = subst (λ (d : Directory). (ids : List ℕ) × HasTable d new 7 es ids) c.new-dir.ensures c.in_ok-add_table.ensures.added in
    takes-place new 7 c.in-Some.leaf (120 ∷ []) es c.in_ok-three.field-0.items added.0 added.1 c.in_ok-one.ensures c.in-Some.ensures c.in_ok-three.ensures
