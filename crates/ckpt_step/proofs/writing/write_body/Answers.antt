use Rattle.std.proofs.Common.{◌∙◌, sym, subst, take, List, ℕ, IsTrue}
use Rattle.device_layout.specs.declared.addr.Addr.{Addr}
use Rattle.ckpt_step.specs.Rooms.{known_in}
use Rattle.ckpt_step.specs.Trees.{placed_by}
use Rattle.ckpt_step.specs.Halves.{Runs}
use Rattle.ckpt_step.proofs.Bodies.{all_taken, history_stopped, may, none_gathered, trees_stopped}
use Rattle.ckpt_step.proofs.HistoryOrder.{no_books}
use Rattle.ckpt_step.proofs.MomentsNow.{moment_now}
use Rattle.ckpt_step.proofs.writing.write_body.Goals as goal

pub returns-in_default-clause-takes : goal.returns-in_default-clause-takes
returns-in_default-clause-takes g c h n fin keeps old half roots written since follows device =
    let D = g.D.Disk in
    let hub = c.args.engine.now.hub in
    let known = take c.args.running.now.tables hub.tables.tables in
    let books = c.args.blocks.now in
    let before = c.args.disk.now in
    let places = placed_by c.args.was.trees.now c.args.taken.now.trees.items in
    none_gathered D old c.args.was.lives.now n known hub.dir.leaves (known_in c.args.was.parts.now) books places c.args.taken.now.parts.items c.args.taken.now.captured.items before
    (subst (λ (l : List Addr). Runs (D.seen before) (D.may_leave before) books old c.args.was.lives.now l) (sym c.requires.unlisted) half.runs) (λ x is. g.met.D.Disk.only_now _ x is)

pub returns-in-Err-clause-takes : goal.returns-in-Err-clause-takes
returns-in-Err-clause-takes g c h n fin keeps old half roots written since follows device =
    let D = g.D.Disk in
    let hub = c.args.engine.now.hub in
    let known = take c.args.running.now.tables hub.tables.tables in
    let leaves = hub.dir.leaves in
    let had = known_in c.args.was.parts.now in
    let lives = c.args.was.lives.now in
    let books = c.args.blocks.now in
    let before = c.args.disk.now in
    let mid = c.write_trees.new.disk in
    let mid_books = c.write_trees.new.blocks in
    let more = c.write_trees.new.taken.parts.items in
    let captured = c.write_trees.new.taken.captured.items in
    let places = placed_by c.args.was.trees.now c.write_trees.new.taken.trees.items in
    let older = c.in-Ok.ensures in
    let history = older.2 n c.args.was.floor fin keeps in
    let moment = moment_now c.args.engine.now c.args.running.now c.args.was.floor n fin older.0 history c.args.snapshot.now.sight c.requires.sight in
    trees_stopped D old lives n known leaves had books places more captured before mid_books mid c.in-Err.error (c.in-Err.ensures.writes h n moment fin.is.tables old half roots written since follows device)

pub returns-in-Ok-write_history-clause-takes : goal.returns-in-Ok-write_history-clause-takes
returns-in-Ok-write_history-clause-takes g c h n fin keeps old half roots written since follows device =
    let D = g.D.Disk in
    let hub = c.args.engine.now.hub in
    let known = take c.args.running.now.tables hub.tables.tables in
    let leaves = hub.dir.leaves in
    let had = known_in c.args.was.parts.now in
    let lives = c.args.was.lives.now in
    let books = c.args.blocks.now in
    let before = c.args.disk.now in
    let mid = c.write_trees.new.disk in
    let mid_books = c.write_trees.new.blocks in
    let more = c.write_trees.new.taken.parts.items in
    let captured = c.write_trees.new.taken.captured.items in
    let places = placed_by c.args.was.trees.now c.write_trees.new.taken.trees.items in
    let older = c.in-Ok.ensures in
    let history = older.2 n c.args.was.floor fin keeps in
    let moment = moment_now c.args.engine.now c.args.running.now c.args.was.floor n fin older.0 history c.args.snapshot.now.sight c.requires.sight in
    let all = c.in-Ok-write_trees.ensures.writes h n moment fin.is.tables old half roots written since follows device in
    let counts : (x : List ℕ) → D.may_leave mid x → D.left_since mid (D.moment before) x = λ x there. g.met.D.Disk.counts_now mid (D.moment before) x all.left.later there in
    let honest : IsTrue (D.honest mid) = c.write_trees.ensures.disk.same ∙ h in
    let wrote = c.in-Ok-write_history.ensures.writes older.0 older.1 honest old no_books (may D old lives n known leaves had books places more captured before mid mid_books all counts) in
    all_taken D old lives n known leaves had books places more captured before mid mid_books all counts c.write_history.new.blocks c.write_history.new.disk older.0 history wrote.0 c.in-Ok-write_history.place wrote.2 c.write_history.ensures.held c.write_history.new.captured.items wrote.1 c.write_trees.ensures.disk.room

pub returns-in-Err-write_history-clause-takes : goal.returns-in-Err-write_history-clause-takes
returns-in-Err-write_history-clause-takes g c h n fin keeps old half roots written since follows device =
    let D = g.D.Disk in
    let hub = c.args.engine.now.hub in
    let known = take c.args.running.now.tables hub.tables.tables in
    let leaves = hub.dir.leaves in
    let had = known_in c.args.was.parts.now in
    let lives = c.args.was.lives.now in
    let books = c.args.blocks.now in
    let before = c.args.disk.now in
    let mid = c.write_trees.new.disk in
    let mid_books = c.write_trees.new.blocks in
    let more = c.write_trees.new.taken.parts.items in
    let captured = c.write_trees.new.taken.captured.items in
    let places = placed_by c.args.was.trees.now c.write_trees.new.taken.trees.items in
    let older = c.in-Ok.ensures in
    let history = older.2 n c.args.was.floor fin keeps in
    let moment = moment_now c.args.engine.now c.args.running.now c.args.was.floor n fin older.0 history c.args.snapshot.now.sight c.requires.sight in
    let all = c.in-Ok-write_trees.ensures.writes h n moment fin.is.tables old half roots written since follows device in
    let counts : (x : List ℕ) → D.may_leave mid x → D.left_since mid (D.moment before) x = λ x there. g.met.D.Disk.counts_now mid (D.moment before) x all.left.later there in
    let honest : IsTrue (D.honest mid) = c.write_trees.ensures.disk.same ∙ h in
    let wrote = c.in-Err-write_history.ensures.writes older.0 older.1 honest old no_books (may D old lives n known leaves had books places more captured before mid mid_books all counts) in
    history_stopped D old lives n known leaves had books places more captured before mid mid_books all counts c.write_history.new.blocks c.write_history.new.disk older.0 history wrote.0 c.write_history.new.captured.items c.in-Err-write_history.error wrote.1 c.write_trees.ensures.disk.room wrote.2

pub write_history-requires-clause-records : goal.write_history-requires-clause-records
write_history-requires-clause-records g c = let older = c.in-Ok.ensures in (older.0, older.1)
