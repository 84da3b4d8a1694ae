use Rattle.std.proofs.Common.{◌≡◌, ◌∙◌, List, Option, Some, ap, subst, sym}
use Rattle.std.specs.Prelude.{slice_get}
use Rattle.tree_open.specs.declared.place.TreePlace.{TreePlace}
use Rattle.ckpt_step.specs.Rooms.{known_in}
use Rattle.ckpt_step.specs.Trees.{placed_by}
use Rattle.ckpt_step.proofs.OneTree.{keeps_goes}
use Rattle.ckpt_step.proofs.Told.{keeps_more, on_ok_map, told_none}
use Rattle.ckpt_step.proofs.trees.take_table.Goals as goal

pub returns-then-may_keep-clause-goes : goal.returns-then-may_keep-clause-goes
returns-then-may_keep-clause-goes g c h n moment t at stood old first may has follows device =
    let e = c.args.engine.now in
    let was = c.args.was.trees.now in
    let told = c.args.taken.now.trees.items in
    let p = c.in-Some.tree.now in
    let there = subst (λ k. slice_get was k ≡ Some p) (sym c.requires.placed) c.in-Some.ensures.at in
    let places = on_ok_map c.keep_table.result c.keep_table.ensures.told (λ is. ap (λ (l : List (Option TreePlace)). placed_by was l) is ∙ told_none was told p there) in
    let d = c.args.disk.now in
    let still = c.in-Some.ensures.still n c.args.snapshot.now.sight moment t at stood old (g.D.Disk.seen d) may.over.may.stands.seen_has may.apart has follows in
    keeps_goes g.D.Disk old first d (λ x left. g.met.D.Disk.only_now _ x left) was e.hub.tables.tables c.args.was.lives.now e.hub.dir.leaves (known_in c.args.was.parts.now) c.args.was.floor n t c.args.place c.args.blocks.now c.keep_table.new.blocks (placed_by was told) (placed_by was c.keep_table.new.taken.trees.items)
    c.args.taken.now.parts.items c.keep_table.new.taken.parts.items c.args.taken.now.captured.items c.keep_table.new.taken.captured.items may
    c.keep_table.result p at follows c.keep_table.ensures.unwritten c.in-Some.ensures.at still c.keep_table.ensures.keeps (c.requires.held ∙ sym c.keep_table.ensures.held) places c.keep_table.ensures.listed c.keep_table.ensures.same c.keep_table.ensures.err

pub returns-then-may_keep-clause-told : goal.returns-then-may_keep-clause-told
returns-then-may_keep-clause-told g c =
    let was = c.args.was.trees.now in
    let p = c.in-Some.tree.now in
    let there = subst (λ k. slice_get was k ≡ Some p) (sym c.requires.placed) c.in-Some.ensures.at in
    on_ok_map c.keep_table.result c.keep_table.ensures.told (λ is. keeps_more was c.args.taken.now.trees.items c.keep_table.new.taken.trees.items p there c.requires.low c.requires.told is)

pub returns-clause-goes : goal.returns-clause-goes
returns-clause-goes g c h n moment t at stood old first may has follows device = c.write_table.ensures.goes h n moment t at stood old first may has follows device
