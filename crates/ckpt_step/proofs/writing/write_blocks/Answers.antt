use Rattle.std.proofs.Common.{◌≡◌, ◌∙◌, ◌+◌, sym, subst, take, List, ℕ, IsTrue, arith}
use Rattle.device_layout.specs.declared.addr.Addr.{Addr}
use Rattle.device_layout.specs.declared.slot.Slot.{Slot}
use Rattle.kv_model.specs.History.{Table}
use Rattle.kv_model.specs.Holds.{Member}
use Rattle.turtle.specs.Slots.{IsNext}
use Rattle.checkpoint_core.specs.Stands.{chosen_of}
use Rattle.tree_open.specs.declared.place.TreePlace.{TreePlace}
use Rattle.ckpt_content.specs.Finished.{tables_then}
use Rattle.ckpt_step.specs.Floors.{FollowsFrom}
use Rattle.ckpt_step.specs.Grounds.{AreRoots, AreWritten}
use Rattle.ckpt_step.specs.Halves.{AllTaken, SomeTaken}
use Rattle.ckpt_step.specs.Rooms.{known_in}
use Rattle.ckpt_step.specs.Runs.{IsImageOf}
use Rattle.ckpt_step.specs.Trees.{AreKept, placed_by}
use Rattle.ckpt_step.proofs.Putting.{all_put, body_failed, next_slot, no_image, not_put, ready}
use Rattle.ckpt_step.proofs.FirstTables.{ascend_take}
use Rattle.ckpt_step.proofs.RunningTables.{first_many, first_stood}
use Rattle.ckpt_step.proofs.Told.{placed_length}
use Rattle.ckpt_step.proofs.writing.write_blocks.Goals as goal

pub returns-in-Err-clause-puts : goal.returns-in-Err-clause-puts
returns-in-Err-clause-puts g c h n fin keeps old half roots written since is_number follows device =
    let D = g.D.Disk in
    let hub = c.args.engine.now.hub in
    let running = c.args.running.now in
    let known = take running.tables hub.tables.tables in
    let leaves = hub.dir.leaves in
    let stand = c.args.ground.now in
    let had = known_in stand.parts in
    let lives = stand.lives in
    let books = stand.place.blocks in
    let before = c.args.disk.now in
    let mid = c.write_body.new.disk in
    let mid_books = c.write_body.new.blocks in
    let told = c.write_body.new.taken.trees.items in
    let more = c.write_body.new.taken.parts.items in
    let taken = c.write_body.new.taken.captured.items in
    let root = c.write_body.new.taken.history.root in
    let place = c.write_body.new.taken.history.addrs.items in
    let places = placed_by stand.trees.items told in
    let past = c.deref.ensures.value in
    let some = subst (λ (l : List TreePlace). SomeTaken D old lives n known leaves had books mid_books (placed_by l told) more taken before mid c.in-Err.error) past (c.in-Err.ensures.takes h n fin keeps old half (subst (λ (l : List TreePlace). AreRoots hub.tables.tables lives leaves had l old) (sym past) roots) (subst (λ (l : List TreePlace). AreWritten hub.tables.tables lives hub.dir had l) (sym past) written) since (subst (λ (l : List TreePlace). FollowsFrom old hub.tables.tables lives leaves had l stand.floor n.world) (sym past) follows) device) in
    body_failed D old lives n known leaves had books places root place more taken before mid_books mid c.in-Err.error some

pub returns-in_default-clause-puts : goal.returns-in_default-clause-puts
returns-in_default-clause-puts g c h n fin keeps old half roots written since is_number follows device =
    let D = g.D.Disk in
    let hub = c.args.engine.now.hub in
    let running = c.args.running.now in
    let known = take running.tables hub.tables.tables in
    let leaves = hub.dir.leaves in
    let stand = c.args.ground.now in
    let had = known_in stand.parts in
    let lives = stand.lives in
    let books = stand.place.blocks in
    let before = c.args.disk.now in
    let mid = c.write_body.new.disk in
    let mid_books = c.write_body.new.blocks in
    let told = c.write_body.new.taken.trees.items in
    let more = c.write_body.new.taken.parts.items in
    let taken = c.write_body.new.taken.captured.items in
    let root = c.write_body.new.taken.history.root in
    let place = c.write_body.new.taken.history.addrs.items in
    let places = placed_by stand.trees.items told in
    let past = c.deref.ensures.value in
    let all = subst (λ (l : List TreePlace). AllTaken D old lives n known leaves had books mid_books (placed_by l told) more taken before mid root place) past (c.in-Ok.ensures.takes h n fin keeps old half (subst (λ (l : List TreePlace). AreRoots hub.tables.tables lives leaves had l old) (sym past) roots) (subst (λ (l : List TreePlace). AreWritten hub.tables.tables lives hub.dir had l) (sym past) written) since (subst (λ (l : List TreePlace). FollowsFrom old hub.tables.tables lives leaves had l stand.floor n.world) (sym past) follows) device) in
    no_image D old lives n known leaves had books places root place more taken before mid mid_books all

pub returns-in_default-reserve_for-clause-puts : goal.returns-in_default-reserve_for-clause-puts
returns-in_default-reserve_for-clause-puts g c h n fin keeps old half roots written since is_number follows device =
    let D = g.D.Disk in
    let hub = c.args.engine.now.hub in
    let running = c.args.running.now in
    let known = take running.tables hub.tables.tables in
    let leaves = hub.dir.leaves in
    let stand = c.args.ground.now in
    let had = known_in stand.parts in
    let lives = stand.lives in
    let books = stand.place.blocks in
    let before = c.args.disk.now in
    let mid = c.write_body.new.disk in
    let mid_books = c.write_body.new.blocks in
    let told = c.write_body.new.taken.trees.items in
    let more = c.write_body.new.taken.parts.items in
    let taken = c.write_body.new.taken.captured.items in
    let root = c.write_body.new.taken.history.root in
    let place = c.write_body.new.taken.history.addrs.items in
    let places = placed_by stand.trees.items told in
    let past = c.deref.ensures.value in
    let all = subst (λ (l : List TreePlace). AllTaken D old lives n known leaves had books mid_books (placed_by l told) more taken before mid root place) past (c.in-Ok.ensures.takes h n fin keeps old half (subst (λ (l : List TreePlace). AreRoots hub.tables.tables lives leaves had l old) (sym past) roots) (subst (λ (l : List TreePlace). AreWritten hub.tables.tables lives hub.dir had l) (sym past) written) since (subst (λ (l : List TreePlace). FollowsFrom old hub.tables.tables lives leaves had l stand.floor n.world) (sym past) follows) device) in
    no_image D old lives n known leaves had books places root place more taken before mid mid_books all

pub returns-in_default-reserve_parts-clause-puts : goal.returns-in_default-reserve_parts-clause-puts
returns-in_default-reserve_parts-clause-puts g c h n fin keeps old half roots written since is_number follows device =
    let D = g.D.Disk in
    let hub = c.args.engine.now.hub in
    let running = c.args.running.now in
    let known = take running.tables hub.tables.tables in
    let leaves = hub.dir.leaves in
    let stand = c.args.ground.now in
    let had = known_in stand.parts in
    let lives = stand.lives in
    let books = stand.place.blocks in
    let before = c.args.disk.now in
    let mid = c.write_body.new.disk in
    let mid_books = c.write_body.new.blocks in
    let told = c.write_body.new.taken.trees.items in
    let more = c.write_body.new.taken.parts.items in
    let taken = c.write_body.new.taken.captured.items in
    let root = c.write_body.new.taken.history.root in
    let place = c.write_body.new.taken.history.addrs.items in
    let places = placed_by stand.trees.items told in
    let past = c.deref.ensures.value in
    let all = subst (λ (l : List TreePlace). AllTaken D old lives n known leaves had books mid_books (placed_by l told) more taken before mid root place) past (c.in-Ok.ensures.takes h n fin keeps old half (subst (λ (l : List TreePlace). AreRoots hub.tables.tables lives leaves had l old) (sym past) roots) (subst (λ (l : List TreePlace). AreWritten hub.tables.tables lives hub.dir had l) (sym past) written) since (subst (λ (l : List TreePlace). FollowsFrom old hub.tables.tables lives leaves had l stand.floor n.world) (sym past) follows) device) in
    no_image D old lives n known leaves had books places root place more taken before mid mid_books all

pub returns-in_default-image_of-clause-puts : goal.returns-in_default-image_of-clause-puts
returns-in_default-image_of-clause-puts g c h n fin keeps old half roots written since is_number follows device =
    let D = g.D.Disk in
    let hub = c.args.engine.now.hub in
    let running = c.args.running.now in
    let known = take running.tables hub.tables.tables in
    let leaves = hub.dir.leaves in
    let stand = c.args.ground.now in
    let had = known_in stand.parts in
    let lives = stand.lives in
    let books = stand.place.blocks in
    let before = c.args.disk.now in
    let mid = c.write_body.new.disk in
    let mid_books = c.write_body.new.blocks in
    let told = c.write_body.new.taken.trees.items in
    let more = c.write_body.new.taken.parts.items in
    let taken = c.write_body.new.taken.captured.items in
    let root = c.write_body.new.taken.history.root in
    let place = c.write_body.new.taken.history.addrs.items in
    let places = placed_by stand.trees.items told in
    let past = c.deref.ensures.value in
    let all = subst (λ (l : List TreePlace). AllTaken D old lives n known leaves had books mid_books (placed_by l told) more taken before mid root place) past (c.in-Ok.ensures.takes h n fin keeps old half (subst (λ (l : List TreePlace). AreRoots hub.tables.tables lives leaves had l old) (sym past) roots) (subst (λ (l : List TreePlace). AreWritten hub.tables.tables lives hub.dir had l) (sym past) written) since (subst (λ (l : List TreePlace). FollowsFrom old hub.tables.tables lives leaves had l stand.floor n.world) (sym past) follows) device) in
    no_image D old lives n known leaves had books places root place more taken before mid mid_books all

nowhere_at : Addr
nowhere_at = record { offset = 0; size = 0; sum = 0 }

pub returns-in-Ok-finish-clause-puts : goal.returns-in-Ok-finish-clause-puts
returns-in-Ok-finish-clause-puts g c h n fin keeps old half roots written since is_number follows device =
    let D = g.D.Disk in
    let hub = c.args.engine.now.hub in
    let running = c.args.running.now in
    let known = take running.tables hub.tables.tables in
    let leaves = hub.dir.leaves in
    let stand = c.args.ground.now in
    let had = known_in stand.parts in
    let lives = stand.lives in
    let books = stand.place.blocks in
    let before = c.args.disk.now in
    let mid = c.write_body.new.disk in
    let mid_books = c.write_body.new.blocks in
    let told = c.write_body.new.taken.trees.items in
    let more = c.write_body.new.taken.parts.items in
    let taken = c.write_body.new.taken.captured.items in
    let root = c.write_body.new.taken.history.root in
    let place = c.write_body.new.taken.history.addrs.items in
    let places = placed_by stand.trees.items told in
    let past = c.deref.ensures.value in
    let image = c.in-Ok-image_of.image.items in
    let number = stand.number in
    let count = placed_length stand.trees.items told (subst (λ (l : List TreePlace). AreKept l told) past c.in-Ok.ensures.told.kept) ∙ (c.in-Ok.ensures.count ∙ sym (first_many c.args.engine.now running stand.floor n fin)) in
    let ascend = ascend_take 1 running.tables hub.tables.tables hub.tables.next fin.stands.catalog.numbers in
    let law = c.rows_taken_before_serve.ensures in
    let stood : (t : Table) → Member t known → Member t (tables_then n.world.machine n.checkpoint) = first_stood c.args.engine.now running stand.floor n fin in
    let all = subst (λ (l : List TreePlace). AllTaken D old lives n known leaves had books mid_books (placed_by l told) more taken before mid root place) past (c.in-Ok.ensures.takes h n fin keeps old half (subst (λ (l : List TreePlace). AreRoots hub.tables.tables lives leaves had l old) (sym past) roots) (subst (λ (l : List TreePlace). AreWritten hub.tables.tables lives hub.dir had l) (sym past) written) since (subst (λ (l : List TreePlace). FollowsFrom old hub.tables.tables lives leaves had l stand.floor n.world) (sym past) follows) device) in
    let img : IsImageOf n.world.machine n.checkpoint number known places root image =
    subst (λ (l : List TreePlace). IsImageOf n.world.machine n.checkpoint number known (placed_by l told) root image) (c.deref-3.ensures.value ∙ c.reserve_for.ensures.items) (c.in-Ok-image_of.ensures.image n stand.floor fin) in
    let counts : (x : List ℕ) → D.may_leave mid x → D.left_since mid (D.moment before) x = λ x there. g.met.D.Disk.counts_now mid (D.moment before) x all.left.later there in
    let honest : IsTrue (D.honest mid) = c.write_body.ensures.disk.same ∙ h in
    let base = ready D old lives n known leaves had books places root place more taken before mid mid_books all hub.tables.next ascend count law stood image number is_number img counts nowhere_at in
    let next : (slot : Slot) → slot.sequence ≡ number + 1 → IsNext (chosen_of old) slot = λ slot is. next_slot (D.seen mid) old number slot all.body.runs.stands.seen_has is_number is in
    all_put D old lives n known leaves had books places root place more taken before mid mid_books all hub.tables.next ascend count law stood image number is_number img counts c.finish.new.blocks c.finish.new.disk c.in-Ok-finish.addr c.write_body.ensures.disk.room
    (c.in-Ok-finish.ensures.finishes honest old _ all.body.runs.stands base img.is.sequence next) (c.in-Ok-finish.ensures.reads honest old _ all.body.runs.stands base img.is.sequence next) (c.in-Ok-finish.ensures.keeps honest old _ all.body.runs.stands base img.is.sequence next) c.in-Ok-finish.ensures.last c.in-Ok-finish.ensures.units c.in-Ok-finish.ensures.ended fin.stands.valid

pub returns-in-Err-finish-clause-puts : goal.returns-in-Err-finish-clause-puts
returns-in-Err-finish-clause-puts g c h n fin keeps old half roots written since is_number follows device =
    let D = g.D.Disk in
    let hub = c.args.engine.now.hub in
    let running = c.args.running.now in
    let known = take running.tables hub.tables.tables in
    let leaves = hub.dir.leaves in
    let stand = c.args.ground.now in
    let had = known_in stand.parts in
    let lives = stand.lives in
    let books = stand.place.blocks in
    let before = c.args.disk.now in
    let mid = c.write_body.new.disk in
    let mid_books = c.write_body.new.blocks in
    let told = c.write_body.new.taken.trees.items in
    let more = c.write_body.new.taken.parts.items in
    let taken = c.write_body.new.taken.captured.items in
    let root = c.write_body.new.taken.history.root in
    let place = c.write_body.new.taken.history.addrs.items in
    let places = placed_by stand.trees.items told in
    let past = c.deref.ensures.value in
    let image = c.in-Ok-image_of.image.items in
    let number = stand.number in
    let count = placed_length stand.trees.items told (subst (λ (l : List TreePlace). AreKept l told) past c.in-Ok.ensures.told.kept) ∙ (c.in-Ok.ensures.count ∙ sym (first_many c.args.engine.now running stand.floor n fin)) in
    let ascend = ascend_take 1 running.tables hub.tables.tables hub.tables.next fin.stands.catalog.numbers in
    let law = c.rows_taken_before_serve.ensures in
    let stood : (t : Table) → Member t known → Member t (tables_then n.world.machine n.checkpoint) = first_stood c.args.engine.now running stand.floor n fin in
    let all = subst (λ (l : List TreePlace). AllTaken D old lives n known leaves had books mid_books (placed_by l told) more taken before mid root place) past (c.in-Ok.ensures.takes h n fin keeps old half (subst (λ (l : List TreePlace). AreRoots hub.tables.tables lives leaves had l old) (sym past) roots) (subst (λ (l : List TreePlace). AreWritten hub.tables.tables lives hub.dir had l) (sym past) written) since (subst (λ (l : List TreePlace). FollowsFrom old hub.tables.tables lives leaves had l stand.floor n.world) (sym past) follows) device) in
    let img : IsImageOf n.world.machine n.checkpoint number known places root image =
    subst (λ (l : List TreePlace). IsImageOf n.world.machine n.checkpoint number known (placed_by l told) root image) (c.deref-3.ensures.value ∙ c.reserve_for.ensures.items) (c.in-Ok-image_of.ensures.image n stand.floor fin) in
    let counts : (x : List ℕ) → D.may_leave mid x → D.left_since mid (D.moment before) x = λ x there. g.met.D.Disk.counts_now mid (D.moment before) x all.left.later there in
    let honest : IsTrue (D.honest mid) = c.write_body.ensures.disk.same ∙ h in
    let base = ready D old lives n known leaves had books places root place more taken before mid mid_books all hub.tables.next ascend count law stood image number is_number img counts nowhere_at in
    let next : (slot : Slot) → slot.sequence ≡ number + 1 → IsNext (chosen_of old) slot = λ slot is. next_slot (D.seen mid) old number slot all.body.runs.stands.seen_has is_number is in
    not_put D old lives n known leaves had books places root place more taken before mid mid_books all hub.tables.next ascend count law stood image number is_number img counts c.finish.new.blocks c.finish.new.disk nowhere_at c.in-Err-finish.error c.write_body.ensures.disk.room
    (c.in-Err-finish.ensures.finishes honest old _ all.body.runs.stands base img.is.sequence next) (c.in-Err-finish.ensures.reads honest old _ all.body.runs.stands base img.is.sequence next) (c.in-Err-finish.ensures.keeps honest old _ all.body.runs.stands base img.is.sequence next) c.in-Err-finish.ensures.back

pub finish-requires-clause-ready : goal.finish-requires-clause-ready
finish-requires-clause-ready g c h =
    let honest : IsTrue (g.D.Disk.honest c.args.disk.now) = sym c.write_body.ensures.disk.same ∙ h in
    let within = c.in-Ok.ensures.ready honest in
    (omega (arith, within), within)
