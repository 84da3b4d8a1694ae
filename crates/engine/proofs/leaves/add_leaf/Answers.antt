use Rattle.std.proofs.Common.{◌≡◌, sym, ◌∙◌, []}
use Rattle.std.specs.Prelude.{None, Some}
use Rattle.std.proofs.lemmas.Option.{same_Some}
use Rattle.engine.proofs.FirstLeaf.{CameAs, comes-as, found-as, has-first}
use Rattle.engine.proofs.leaves.add_leaf.Goals as goal

pub returns-in-None-clause-kept : goal.returns-in-None-clause-kept
returns-in-None-clause-kept c =
    let came : CameAs c.args.dir.now c.add_table.new.self c.args.table [] = comes-as c.args.dir.now c.add_table.new.self c.args.table [] c.in_ok-entries.entries.items c.in_ok-entries.ensures c.in_ok-add_table.ensures.added in
    let clash : None ≡ Some came.id = sym c.in-None.is ∙ found-as c.args.dir.now c.add_table.new.self c.args.table [] came c.leaf_for.result c.leaf_for.ensures in
    absurd cc

pub returns-in-Some-clause-first : goal.returns-in-Some-clause-first
returns-in-Some-clause-first c =
    let came : CameAs c.args.dir.now c.add_table.new.self c.args.table [] = comes-as c.args.dir.now c.add_table.new.self c.args.table [] c.in_ok-entries.entries.items c.in_ok-entries.ensures c.in_ok-add_table.ensures.added in
    let found : Some c.in-Some.id ≡ Some came.id = sym c.in-Some.is ∙ found-as c.args.dir.now c.add_table.new.self c.args.table [] came c.leaf_for.result c.leaf_for.ensures in
    has-first c.args.dir.now c.add_table.new.self c.set_frame.new.self c.args.table c.args.frame [] came c.in-Some.id (sym (same_Some c.in-Some.id came.id found)) c.set_frame.ensures
