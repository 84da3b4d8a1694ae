use Rattle.std.proofs.Common.{◌≡◌, ◌∙◌, ap, false, subst}
use Rattle.std.specs.Prelude.{slice_get}
use Rattle.std.specs.List.{Contains}
use Rattle.kv_model.specs.History.{Table}
use Rattle.tree_dir.specs.declared.leaf.Leaf.{Leaf}
use Rattle.tree_dir.specs.Leaves.{leaves_of}
use Rattle.ckpt_step.specs.Lives.{is_live}
use Rattle.ckpt_step.specs.Rooms.{known_in}
use Rattle.ckpt_step.specs.Steps.{IsKept}
use Rattle.ckpt_step.proofs.Members.{some_same}
use Rattle.ckpt_step.proofs.StillTables.{still_table}
use Rattle.ckpt_step.proofs.Told.{read_at}
use Rattle.ckpt_step.proofs.clean.clean_tree.Goals as goal

pub returns-then-keeps_all-clause-still : goal.returns-then-keeps_all-clause-still
returns-then-keeps_all-clause-still c n s moment t at stood old bytes still apart has follows =
    let e = c.args.engine.now in
    let had = known_in c.args.was.parts.now in
    let tree = c.in_ok-tree.tree.now in
    let there = read_at c.args.was.trees.now c.args.place tree c.in_ok-tree.ensures.lookup.3.0 c.in_ok-tree.ensures.lookup.3.1 in
    let table : c.in_ok-table.table.now ≡ t = some_same (c.in_ok-table.ensures ∙ (ap (λ k. slice_get k.tables c.args.place) c.tables.ensures.are ∙ at)) in
    still_table e s c.args.was.floor n moment had c.args.was.trees.now t stood c.args.place at old bytes still apart c.args.was.lives.now has follows
    (subst (λ (u : Table). (l : Leaf) → Contains (leaves_of u.number e.hub.dir.leaves) l → (is_live c.args.was.lives.now l ≡ false) × IsKept e had c.args.was.floor l) (c.table-2.view_is ∙ table) (c.keeps_all.ensures c.if-keeps_all.true)) tree there
