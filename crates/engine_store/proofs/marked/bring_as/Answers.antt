use Rattle.std.proofs.Common.{◌≡◌, ◌∙◌, false, true, refl, subst, sym}
use Rattle.std.specs.Prelude.{◌==◌}
use Rattle.std.proofs.lemmas.Bool.{ne_eqb}
use Rattle.tree_dir.specs.Leaves.{Directory}
use Rattle.engine_world.specs.Stands.{Engine, Stands}
use Rattle.engine.specs.Directories.{LeavesGoOn}
use Rattle.engine.proofs.LeavesCome.{named-there}
use Rattle.engine.specs.Waits.{IsAway}
use Rattle.call_turns.proofs.Walks.{named-is}
use Rattle.evict_step.specs.Kept.{list_of}
use Rattle.engine_store.specs.Keeping.{with_kept}
use Rattle.engine_store.specs.Loads.{IsReadAs}
use Rattle.engine_store.specs.Marked.{IsFramed}
use Rattle.engine_store.proofs.OpenedLeaves.{opened_comes, page_opened}
use Rattle.engine_store.proofs.OtherRecords.{kept_then, newest_first}
use Rattle.engine_store.proofs.HubsGo.{goes_same}
use Rattle.engine_store.proofs.LeavesGo.{changed_framed, changed_go, leaves_same}
use Rattle.engine_store.proofs.marked.bring_as.Goals as goal

pub returns-then-not-is_away-clause-framed : goal.returns-then-not-is_away-clause-framed
returns-then-not-is_away-clause-framed g c =
    let isnt : c.is_away.result ≡ false = cc in
    subst (λ (d : Directory). IsFramed d.leaves c.args.leaf) c.leaves.ensures.are (c.is_away.ensures.no isnt)

pub returns-then-not-is_away-clause-leaves : goal.returns-then-not-is_away-clause-leaves
returns-then-not-is_away-clause-leaves g c = leaves_same c.args.engine.now.hub.dir.leaves

pub returns-then-not-is_away-clause-goes : goal.returns-then-not-is_away-clause-goes
returns-then-not-is_away-clause-goes g c = goes_same c.args.engine.now.hub c.requires.owned

pub returns-in-Err-clause-leaves : goal.returns-in-Err-clause-leaves
returns-in-Err-clause-leaves g c = leaves_same c.args.engine.now.hub.dir.leaves

pub returns-in-Err-clause-goes : goal.returns-in-Err-clause-goes
returns-in-Err-clause-goes g c = goes_same c.args.engine.now.hub c.requires.owned

pub returns-in_default-clause-leaves : goal.returns-in_default-clause-leaves
returns-in_default-clause-leaves g c = leaves_same c.args.engine.now.hub.dir.leaves

pub returns-in_default-clause-goes : goal.returns-in_default-clause-goes
returns-in_default-clause-goes g c = goes_same c.args.engine.now.hub c.requires.owned

pub returns-in-Ok-fill-clause-stands : goal.returns-in-Ok-fill-clause-stands
returns-in-Ok-fill-clause-stands g c = λ honest w st kept.
    let seen = g.D.Disk.seen c.args.disk.now in
    let dir = c.args.engine.now.hub.dir in
    let lists = c.args.kept.now in
    let yes : c.is_away.result ≡ true = cc in
    let away : IsAway dir.leaves c.args.leaf = subst (λ (d : Directory). IsAway d.leaves c.args.leaf) c.leaves.ensures.are (c.is_away.ensures.yes yes) in
    let read : IsReadAs seen dir c.args.leaf c.args.marks c.args.ids.now c.in-Ok.read = subst (λ (d : Directory). IsReadAs seen d c.args.leaf c.args.marks c.args.ids.now c.in-Ok.read) c.leaves-2.ensures.are (c.in-Ok.ensures.ok honest) in
    let there = named-there c.args.leaf dir.leaves away.0 away.1 in
    let is = named-is c.args.leaf dir.leaves away.0 away.1 in
    let opened = page_opened c.one_is_loaded.ensures seen dir c.args.leaf c.args.marks c.args.ids.now lists c.in-Ok.read w.shelf read away.0 away.1 is (kept away.0 there away.2) in
    let comes = opened_comes c.rows_open.ensures.back c.in-Ok.read.page (list_of lists c.args.leaf) (w.shelf c.args.leaf) c.in-Ok-with_moved.page opened.0 opened.1 (newest_first c.args.engine.now lists w c.args.leaf st away) c.in-Ok-with_moved.ensures.comes c.in-Ok-with_moved.ensures.alone in
    subst (Stands c.fill.new.self) (kept_then lists c.forget.new.self c.args.leaf w c.forget.ensures) (c.in-Ok-fill.ensures.stands (with_kept lists w) st comes)

pub returns-in-Ok-fill-clause-others : goal.returns-in-Ok-fill-clause-others
returns-in-Ok-fill-clause-others g c = λ id differ. c.forget.ensures id ∙ (let isnt : (id == c.args.leaf) ≡ false = ne_eqb id c.args.leaf differ in rw isnt refl)

pub returns-in-Ok-fill-clause-framed : goal.returns-in-Ok-fill-clause-framed
returns-in-Ok-fill-clause-framed g c = subst (λ (d : Directory). IsFramed d.leaves c.args.leaf) (sym c.in-Ok-fill.ensures.filled.dir) (changed_framed c.args.leaf _ c.args.engine.now.hub.dir.leaves)

pub returns-in-Ok-fill-clause-leaves : goal.returns-in-Ok-fill-clause-leaves
returns-in-Ok-fill-clause-leaves g c = subst (λ (d : Directory). LeavesGoOn c.args.engine.now.hub.dir.leaves d.leaves) (sym c.in-Ok-fill.ensures.filled.dir) (changed_go c.args.leaf _ c.args.engine.now.hub.dir.leaves)

pub returns-in-Err-fill-clause-leaves : goal.returns-in-Err-fill-clause-leaves
returns-in-Err-fill-clause-leaves g c = subst (λ (e : Engine). LeavesGoOn c.args.engine.now.hub.dir.leaves e.hub.dir.leaves) (sym c.in-Err-fill.ensures.kept) (leaves_same c.args.engine.now.hub.dir.leaves)
