use Rattle.std.proofs.Common.{refl, ◌≡◌, ◌∙◌, ◌++◌, ◌∷◌, [], List, Option, Some, ap, sym}
use Rattle.std.specs.Prelude.{slice_get}
use Rattle.kv_model.specs.History.{Table}
use Rattle.tree_open.specs.declared.place.TreePlace.{TreePlace}
use Rattle.wt_code.specs.declared.store_error.StoreError.TheVariants.{NoMemory, NoSpace}
use Rattle.ckpt_step.specs.Rooms.{known_in}
use Rattle.ckpt_step.specs.Trees.{placed_by}
use Rattle.ckpt_step.proofs.Members.{some_same}
use Rattle.ckpt_step.proofs.OneTree.{keeps_none}
use Rattle.ckpt_step.proofs.Told.{tells_more, told_some}
use Rattle.ckpt_step.proofs.WrittenTables.{fails_table, stops_table, writes_table}
use Rattle.ckpt_step.proofs.trees.write_table.Goals as goal

memory_not_space : NoMemory ≡ NoSpace → ⊥
memory_not_space same = cc

pub returns-in_default-clause-goes : goal.returns-in_default-clause-goes
returns-in_default-clause-goes g c h n moment t at stood old first may has follows device =
    let e = c.args.engine.now in
    let places = placed_by c.args.was.trees.now c.args.taken.now.trees.items in
    keeps_none g.D.Disk old first c.args.disk.now (λ d left. g.met.D.Disk.only_now _ d left) c.args.was.trees.now e.hub.tables.tables c.args.was.lives.now e.hub.dir.leaves (known_in c.args.was.parts.now) c.args.was.floor n t c.args.place c.args.blocks.now c.args.blocks.now places places
    c.args.taken.now.parts.items c.args.taken.now.parts.items c.args.taken.now.captured.items c.args.taken.now.captured.items may NoMemory memory_not_space refl refl

pub returns-in_default-reserve-clause-goes : goal.returns-in_default-reserve-clause-goes
returns-in_default-reserve-clause-goes g c h n moment t at stood old first may has follows device =
    let e = c.args.engine.now in
    keeps_none g.D.Disk old first c.args.disk.now (λ d left. g.met.D.Disk.only_now _ d left) c.args.was.trees.now e.hub.tables.tables c.args.was.lives.now e.hub.dir.leaves (known_in c.args.was.parts.now) c.args.was.floor n t c.args.place c.args.blocks.now c.args.blocks.now (placed_by c.args.was.trees.now c.args.taken.now.trees.items) (placed_by c.args.was.trees.now c.reserve.new.self.items)
    c.args.taken.now.parts.items c.args.taken.now.parts.items c.args.taken.now.captured.items c.args.taken.now.captured.items may NoMemory memory_not_space refl refl

pub returns-in-Ok-finish-clause-goes : goal.returns-in-Ok-finish-clause-goes
returns-in-Ok-finish-clause-goes g c h n moment t at stood old first may has follows device =
    let D = g.D.Disk in
    let e = c.args.engine.now in
    let was = c.args.was.trees.now in
    let had = known_in c.args.was.parts.now in
    let number : t.number ≡ c.table-2.inside.number = ap (λ (u : Table). u.number) (some_same (sym at ∙ (ap (λ k. slice_get k.tables c.args.place) (sym c.tables.ensures.are) ∙ sym c.in-Some.ensures)) ∙ sym c.table-2.view_is) in
    writes_table D old first was e had n moment.stands t c.args.place at c.table-2.inside.number number c.args.blocks.now c.take_leaves.new.blocks c.finish.new.blocks (placed_by was c.args.taken.now.trees.items) (placed_by was c.push_reserved.new.self.items)
    c.args.taken.now.parts.items c.take_leaves.new.taken.parts.items c.args.taken.now.captured.items c.take_leaves.new.taken.captured.items c.finish.new.captured.items c.args.disk.now c.take_leaves.new.disk c.finish.new.disk c.take_leaves.new.draft c.args.was.lives.now may has
    (λ start go. c.in-Ok-take_leaves.ensures.drafts h n moment c.args.place t at number stood old start go has follows device) c.in-Ok-finish.tree
    (λ start links parts listed drafted stand. c.in-Ok-finish.ensures.writes (c.take_leaves.ensures.disk.same ∙ h) old start c.args.blocks.now c.args.disk.now links parts listed drafted stand) c.in-Ok-finish.ensures.leaves
    (ap (λ (l : List (Option TreePlace)). placed_by was l) (c.push_reserved.ensures.items ∙ ap (λ (l : List (Option TreePlace)). l ++ Some c.in-Ok-finish.tree ∷ []) (ap (λ v. v.items) c.take_leaves.ensures.trees ∙ c.reserve.ensures.items)) ∙ told_some was c.args.taken.now.trees.items c.in-Ok-finish.tree)

pub returns-in-Ok-finish-clause-told : goal.returns-in-Ok-finish-clause-told
returns-in-Ok-finish-clause-told g c =
    tells_more c.args.was.trees.now c.args.taken.now.trees.items c.push_reserved.new.self.items c.in-Ok-finish.tree c.in-Ok-finish.ensures.low c.requires.told
    (c.push_reserved.ensures.items ∙ ap (λ (l : List (Option TreePlace)). l ++ Some c.in-Ok-finish.tree ∷ []) (ap (λ v. v.items) c.take_leaves.ensures.trees ∙ c.reserve.ensures.items))

pub returns-in-Err-finish-clause-goes : goal.returns-in-Err-finish-clause-goes
returns-in-Err-finish-clause-goes g c h n moment t at stood old first may has follows device =
    let D = g.D.Disk in
    let e = c.args.engine.now in
    let was = c.args.was.trees.now in
    let had = known_in c.args.was.parts.now in
    let number : t.number ≡ c.table-2.inside.number = ap (λ (u : Table). u.number) (some_same (sym at ∙ (ap (λ k. slice_get k.tables c.args.place) (sym c.tables.ensures.are) ∙ sym c.in-Some.ensures)) ∙ sym c.table-2.view_is) in
    stops_table D old first was e had n moment.stands t c.args.place at c.table-2.inside.number number c.args.blocks.now c.take_leaves.new.blocks c.finish.new.blocks (placed_by was c.args.taken.now.trees.items) (placed_by was c.take_leaves.new.taken.trees.items)
    c.args.taken.now.parts.items c.take_leaves.new.taken.parts.items c.args.taken.now.captured.items c.take_leaves.new.taken.captured.items c.finish.new.captured.items c.args.disk.now c.take_leaves.new.disk c.finish.new.disk c.take_leaves.new.draft c.args.was.lives.now may has
    (λ start go. c.in-Ok-take_leaves.ensures.drafts h n moment c.args.place t at number stood old start go has follows device) c.in-Err-finish.error
    (λ start links parts listed drafted stand. c.in-Err-finish.ensures.writes (c.take_leaves.ensures.disk.same ∙ h) old start c.args.blocks.now c.args.disk.now links parts listed drafted stand)

pub returns-in-Err-clause-goes : goal.returns-in-Err-clause-goes
returns-in-Err-clause-goes g c h n moment t at stood old first may has follows device =
    let e = c.args.engine.now in
    let was = c.args.was.trees.now in
    let number : t.number ≡ c.table-2.inside.number = ap (λ (u : Table). u.number) (some_same (sym at ∙ (ap (λ k. slice_get k.tables c.args.place) (sym c.tables.ensures.are) ∙ sym c.in-Some.ensures)) ∙ sym c.table-2.view_is) in
    fails_table g.D.Disk old first was e (known_in c.args.was.parts.now) n moment.stands t c.args.place at c.table-2.inside.number number c.args.blocks.now c.take_leaves.new.blocks c.take_leaves.new.blocks (placed_by was c.args.taken.now.trees.items) (placed_by was c.take_leaves.new.taken.trees.items)
    c.args.taken.now.parts.items c.take_leaves.new.taken.parts.items c.args.taken.now.captured.items c.take_leaves.new.taken.captured.items c.take_leaves.new.taken.captured.items c.args.disk.now c.take_leaves.new.disk c.take_leaves.new.disk c.take_leaves.new.draft c.args.was.lives.now may has c.in-Err.error
    (λ start go. c.in-Err.ensures.drafts h n moment c.args.place t at number stood old start go has follows device)
