use Rattle.std.proofs.Common.{refl, ◌≡◌, ◌∙◌, ◌++◌, ◌+◌, sym, ap, subst, take, List, ℕ, length, Some, arith}
use Rattle.std.proofs.Math.Path.{fun_ext}
use Rattle.extent_list.specs.Space.{Space, end_of}
use Rattle.device_layout.specs.declared.addr.Addr.{Addr}
use Rattle.device_layout.specs.Slots.{slot_at}
use Rattle.wt_code.specs.declared.store_error.StoreError.{StoreError}
use Rattle.kv_model.specs.History.{Table}
use Rattle.kv_model.specs.Holds.{Member}
use Rattle.stamp.specs.declared.Name.{Name}
use Rattle.tree_open.specs.declared.place.TreePlace.{TreePlace}
use Rattle.ckpt_content.specs.Finished.{tables_then}
use Rattle.ckpt_step.specs.Floors.{AreLivesOn, AreOnDevice, FollowsFrom}
use Rattle.ckpt_step.specs.Lives.{AreOfOthers, addrs_in}
use Rattle.ckpt_step.specs.Moments.{floor_at}
use Rattle.ckpt_step.specs.Parts.{with_parts}
use Rattle.ckpt_step.specs.Rooms.{Written, known_in}
use Rattle.ckpt_step.specs.Grounds.{AreLone, StandsOn, start_cell}
use Rattle.ckpt_step.specs.Halves.{AreApartFrom, AreOldBlocks, AreOwn, IsFresh, done_at, half_cell}
use Rattle.ckpt_step.specs.Runs.{OldStands, made_of}
use Rattle.ckpt_step.specs.Sizes.{HasPlaces, KeepsLeaves, LacksPlace}
use Rattle.ckpt_step.specs.declared.lives.Lone.{Lone}
use Rattle.ckpt_step.specs.Trees.{AreKept, AreLow, addrs_of, kept_by, placed_by}
use Rattle.ckpt_step.proofs.CapturesBefore.{captures_at}
use Rattle.ckpt_step.proofs.FirstTables.{ascend_take}
use Rattle.ckpt_step.proofs.Past.{free_space}
use Rattle.ckpt_step.proofs.LeavesNow.{device_kept}
use Rattle.ckpt_step.proofs.LookedAt.{new_looked, not_begun, old_looked, stands_looked}
use Rattle.ckpt_step.proofs.Made.{made_keeps}
use Rattle.ckpt_step.proofs.Members.{in_front}
use Rattle.ckpt_step.proofs.OldTrees.{bodies_before}
use Rattle.ckpt_step.proofs.OthersFollow.{device_others, follows_others}
use Rattle.ckpt_step.proofs.OthersStay.{are_apart, others_then}
use Rattle.ckpt_step.proofs.RunningTables.{first_are, first_few, first_many, first_stood, stood_first}
use Rattle.ckpt_step.proofs.SeenBefore.{next_floor}
use Rattle.ckpt_step.proofs.Standing.{keeps_all, new_ground}
use Rattle.ckpt_step.proofs.Starting.{half_start, old_ground, past_blocks}
use Rattle.ckpt_step.proofs.Left.{kept_in}
use Rattle.ckpt_step.proofs.Told.{placed_length}
use Rattle.ckpt_step.proofs.writing.write.Goals as goal

pub returns-in-Ok-false-clause-wrote : goal.returns-in-Ok-false-clause-wrote
returns-in-Ok-false-clause-wrote g c h n fin respects keeps old on follows device = absurd (omega (arith, c.in-Ok-false.ensures.no h c.in-Ok-false.field-0-test, on.within))

pub returns-in-Err-clause-wrote : goal.returns-in-Err-clause-wrote
returns-in-Err-clause-wrote g c h n fin respects keeps old on follows device =
    let D = g.D.Disk in
    let hub = c.args.engine.now.hub in
    let stand = c.args.ground.now in
    subst (λ (e : StoreError). OldStands D old n hub stand stand c.args.disk.now c.is_within.new.disk e) (sym c.in-Err.ensures.err)
    (not_begun D c.args.disk.now c.is_within.new.disk c.is_within.ensures.looked (λ x is. g.met.D.Disk.only_now _ x is) old n hub stand on follows device)

pub write_blocks-requires-clause-ready : goal.write_blocks-requires-clause-ready
write_blocks-requires-clause-ready g c h =
    let looked = c.is_within.ensures.looked in
    let within = c.in-Ok-true.ensures.yes (sym looked.same ∙ h) c.in-Ok-true.field-0-test in
    omega (arith, within, ap end_of c.begin.ensures.space, ap (λ (l : List ℕ). length l) looked.content)

pub settle-requires-clause-kept : goal.settle-requires-clause-kept
settle-requires-clause-kept g c = subst (λ (l : List TreePlace). AreKept l c.write_blocks.new.taken.trees.items) (sym c.in-Ok.ensures.trees) c.in-Ok.ensures.told.kept

pub settle-requires-clause-few : goal.settle-requires-clause-few
settle-requires-clause-few g c = omega (arith, ap (λ (l : List TreePlace). length l) c.in-Ok.ensures.trees, c.requires.trees, c.in-Ok.ensures.count)

pub returns-in-Ok-clause-trees : goal.returns-in-Ok-clause-trees
returns-in-Ok-clause-trees g c =
    let stand = c.args.ground.now in
    let told = c.write_blocks.new.taken.trees.items in
    let settled : c.settle.new.ground.trees.items ≡ placed_by stand.trees.items told = c.settle.ensures.trees ∙ ap (λ (l : List TreePlace). placed_by l told) c.in-Ok.ensures.trees in
    omega (arith, ap (λ (l : List TreePlace). length l) settled, placed_length stand.trees.items told c.in-Ok.ensures.told.kept, c.in-Ok.ensures.count, c.requires.tables)

pub returns-in-Ok-clause-low : goal.returns-in-Ok-clause-low
returns-in-Ok-clause-low g c =
    let told = c.write_blocks.new.taken.trees.items in
    subst AreLow (sym (c.settle.ensures.trees ∙ ap (λ (l : List TreePlace). placed_by l told) c.in-Ok.ensures.trees)) c.in-Ok.ensures.told.low

pub returns-in-Ok-clause-wrote : goal.returns-in-Ok-clause-wrote
returns-in-Ok-clause-wrote g c h n fin respects keeps old on follows device =
    let D = g.D.Disk in
    let e = c.args.engine.now in
    let hub = e.hub in
    let running = c.args.running.now in
    let known = hub.tables.tables in
    let first = take running.tables known in
    let leaves = hub.dir.leaves in
    let before = c.args.disk.now in
    let start = c.is_within.new.disk in
    let looked = c.is_within.ensures.looked in
    let seen = D.seen start in
    let images = D.may_leave start in
    let stand = c.args.ground.now in
    let stood = stands_looked (D.seen before) seen (D.may_leave before) images hub stand old looked.content looked.images on in
    let had = known_in stand.parts in
    let lives = stand.lives in
    let device_now : AreLivesOn seen hub stand n.world = subst (λ (bytes : List ℕ). AreLivesOn bytes hub stand n.world) (sym looked.content) device in
    let mid = c.write_blocks.new.ground in
    let last = c.write_blocks.new.disk in
    let told = c.write_blocks.new.taken.trees.items in
    let more = c.write_blocks.new.taken.parts.items in
    let captured = c.write_blocks.new.taken.captured.items in
    let ascend = fin.stands.catalog.numbers in
    let half = half_start seen images hub ascend stand old stood c.begin.new.blocks c.begin.ensures.cells c.begin.ensures.space c.begin.ensures.synced c.begin.ensures.held in
    let places = placed_by stand.trees.items told in
    let place = c.write_blocks.new.taken.history.addrs.items in
    let others = c.write_blocks.new.taken.others in
    let a = c.in-Ok.addr in
    let numbers = ascend_take 1 running.tables known hub.tables.next ascend in
    let put = c.in-Ok.ensures.puts (looked.same ∙ h) n fin keeps old half stood.roots stood.written stood.since stood.number follows device_now in
    let stay : AreOfOthers first leaves lives others = c.in-Ok.ensures.others n.world fin.stands old had stood.since stood.led in
    let trees_same : mid.trees.items ≡ stand.trees.items = c.in-Ok.ensures.trees in
    let settled : c.settle.new.ground.trees.items ≡ places = c.settle.ensures.trees ∙ ap (λ (l : List TreePlace). placed_by l told) trees_same in
    let parts : (leaf : ℕ) → known_in c.settle.new.ground.parts leaf ≡ with_parts had more leaf = λ leaf. c.settle.ensures.parts leaf ∙ ap (λ (x : Written). with_parts x more leaf) (fun_ext c.in-Ok.ensures.parts) in
    let many : length places ≡ running.tables = placed_length stand.trees.items told c.in-Ok.ensures.told.kept ∙ c.in-Ok.ensures.count in
    let count = many ∙ sym (first_many e running stand.floor n fin) in
    let lives_same : mid.lives ≡ lives = c.in-Ok.ensures.lives in
    let old_addrs = addrs_of stand.trees.items ++ stand.history.items in
    let bodies = λ (x : Addr) (there : Member x old_addrs). bodies_before seen images stand.place.blocks known hub.tables.next ascend lives leaves had stand.trees.items old stood.stands stood.roots stood.since.lone stood.cells stood.units x (subst (λ (l : List Addr). Member x (addrs_of stand.trees.items ++ l)) stood.history there) in
    let apart : AreApartFrom old lives captured old_addrs others = are_apart hub.dir fin.stands.dir first lives others stood.since.lone.distinct stay old captured old_addrs stood.since.lone put.apart bodies in
    let apart_mid : AreApartFrom old mid.lives captured (addrs_of mid.trees.items ++ mid.history.items) others =
    subst (λ (y : List Lone). AreApartFrom old y captured (addrs_of mid.trees.items ++ mid.history.items) others) (sym lives_same) (subst (λ (l : List Addr). AreApartFrom old lives captured (addrs_of mid.trees.items ++ l) others) (sym c.in-Ok.ensures.stood) (subst (λ (l : List TreePlace). AreApartFrom old lives captured (addrs_of l ++ stand.history.items) others) (sym trees_same) apart)) in
    let past = subst (λ (y : List Lone). AreOldBlocks old y (addrs_of mid.trees.items ++ (mid.history.items ++ addrs_in y))) (sym lives_same) (subst (λ (l : List Addr). AreOldBlocks old lives (addrs_of mid.trees.items ++ (l ++ addrs_in lives))) (sym c.in-Ok.ensures.stood) (subst (λ (l : List TreePlace). AreOldBlocks old lives (addrs_of l ++ (stand.history.items ++ addrs_in lives))) (sym trees_same) (past_blocks seen images hub ascend stand old stood))) in
    let kept : (x : Addr) → Member x (addrs_of (kept_by mid.trees.items told)) → Member x captured = λ x there. (put.done.listed x).1 (in_front (addrs_of places) place x (kept_in stand.trees.items told x (subst (λ (l : List TreePlace). Member x (addrs_of (kept_by l told))) trees_same there))) in
    let number : mid.number + 1 ≡ put.r.sequence = omega (arith, c.in-Ok.ensures.number, stood.number, put.is.names.sequence) in
    let rev = first_are e running stand.floor n fin in
    let new = made_of put.r first put.trees put.history a in
    let next = c.next_floor-floor.result in
    let floor = next_floor n.world.machine n.checkpoint stand.floor (floor_at running.snapshot.sight) next others c.next_floor-floor.ensures.none (λ some. c.next_floor-floor.ensures.some some ∙ c.in-Ok.ensures.floor) follows.respects fin.before respects (captures_at n.world.machine n.checkpoint running.snapshot.sight fin.is.sees) in
    let stands_now : StandsOn (D.seen last) (D.may_leave last) hub c.settle.new.ground (Some new) = new_ground (D.seen last) mid.place.blocks old lives others first hub.tables.next numbers places put.trees put.history place captured old_addrs count put.r a put.done apart c.settle.new.ground.place.blocks.cells
    (c.settle.ensures.cells old captured a past kept (subst (λ (y : List Lone). AreOwn old y captured) (sym lives_same) put.done.own) (subst (λ (y : List Lone). IsFresh old y captured a) (sym lives_same) put.done.fresh) apart_mid (λ u. put.done.cells u ∙ ap (λ (y : List Lone). done_at old y captured a u) (sym lives_same)))
    (D.may_leave last) hub had more c.settle.new.ground running.tables stand.trees.items ascend refl (first_few e running stand.floor n fin) c.requires.trees fin.stands.dir put.by_leaves.parted put.of_tables stay stood.written stood.since stood.led put.each refl (c.settle.ensures.units put.done.units) (c.settle.ensures.held ∙ put.done.idle) c.settle.ensures.end
    (c.settle.ensures.number ∙ number) (c.settle.ensures.slot ∙ ap (λ (k : ℕ). Some (slot_at k a)) number) settled c.settle.ensures.stand parts c.settle.ensures.lives in
    let follows_now = follows_others hub.dir fin.stands.dir first lives others had stay old stood.since (Some new) known running.tables more stand.trees.items places stand.floor next n.world n.checkpoint put.of_tables refl many floor follows (put.follows next floor.respects floor.captures) in
    let device_then = device_others hub.dir fin.stands.dir first lives others had stay old stood.since seen (D.seen last) c.begin.new.blocks half.runs.cells half.runs.units half.runs.within put.keeps n.world.shelf device_now in
    new_looked D before start looked (λ x is. g.met.D.Disk.only_now _ x is) old n hub stand c.settle.new.ground last (record {
      new = new;
      is = put.is;
      left = put.left;
      each = put.each;
      on = stands_now;
      follows =
          subst (λ (y : List Lone). FollowsFrom (Some new) known y leaves (known_in c.settle.new.ground.parts) c.settle.new.ground.trees.items c.settle.new.ground.floor n.world) (sym c.settle.ensures.lives)
          (subst (λ (l : List TreePlace). FollowsFrom (Some new) known others leaves (known_in c.settle.new.ground.parts) l c.settle.new.ground.floor n.world) (sym settled)
          (subst (λ (x : Written). FollowsFrom (Some new) known others leaves x places c.settle.new.ground.floor n.world) (sym (fun_ext parts))
          (subst (λ (x : Name). FollowsFrom (Some new) known others leaves (with_parts had more) places x n.world) (sym c.settle.ensures.floor) follows_now)));
      since = subst (λ (y : List Lone). AreOnDevice (D.seen last) y leaves n.world.shelf) (sym c.settle.ensures.lives) device_then;
      others = subst (λ (y : List Lone). AreOfOthers (tables_then n.world.machine n.checkpoint) leaves lives y) (sym c.settle.ensures.lives) (others_then first (tables_then n.world.machine n.checkpoint) leaves lives others (first_stood e running stand.floor n fin) (stood_first e running stand.floor n fin) stay);
      kept =
          subst (λ (l : List TreePlace). KeepsLeaves seen known leaves had new l (known_in c.settle.new.ground.parts)) (sym settled)
          (subst (λ (x : Written). KeepsLeaves seen known leaves had new places x) (sym (fun_ext parts)) (keeps_all seen known running.tables leaves had new places (with_parts had more) many (made_keeps first hub.tables.next numbers places put.trees count put.done.bytes put.done.there put.r put.history a put.done.tables seen leaves had (with_parts had more) put.by_leaves.same)));
      had_room = record {
        old = old;
        has = stood.stands.seen_has;
        space = stand.place.blocks.space;
        space_is = free_space seen images stand.place.blocks old lives stood.stands stood.since.lone stood.cells stood.units stood.within;
        some = subst (λ (l : List Table). HasPlaces seen (D.capacity start) old leaves had n stand.place.blocks.space l) rev (subst (λ (s : Space). HasPlaces seen (D.capacity start) old leaves had n s first) c.begin.ensures.space put.placed);
      };
    })

pub returns-in-Err-write_blocks-clause-wrote : goal.returns-in-Err-write_blocks-clause-wrote
returns-in-Err-write_blocks-clause-wrote g c h n fin respects keeps old on follows device =
    let D = g.D.Disk in
    let e = c.args.engine.now in
    let hub = e.hub in
    let running = c.args.running.now in
    let known = hub.tables.tables in
    let first = take running.tables known in
    let leaves = hub.dir.leaves in
    let before = c.args.disk.now in
    let start = c.is_within.new.disk in
    let looked = c.is_within.ensures.looked in
    let seen = D.seen start in
    let images = D.may_leave start in
    let stand = c.args.ground.now in
    let stood = stands_looked (D.seen before) seen (D.may_leave before) images hub stand old looked.content looked.images on in
    let had = known_in stand.parts in
    let lives = stand.lives in
    let device_now : AreLivesOn seen hub stand n.world = subst (λ (bytes : List ℕ). AreLivesOn bytes hub stand n.world) (sym looked.content) device in
    let mid = c.write_blocks.new.ground in
    let last = c.write_blocks.new.disk in
    let told = c.write_blocks.new.taken.trees.items in
    let more = c.write_blocks.new.taken.parts.items in
    let captured = c.write_blocks.new.taken.captured.items in
    let ascend = fin.stands.catalog.numbers in
    let half = half_start seen images hub ascend stand old stood c.begin.new.blocks c.begin.ensures.cells c.begin.ensures.space c.begin.ensures.synced c.begin.ensures.held in
    let put = c.in-Err-write_blocks.ensures.puts (looked.same ∙ h) n fin keeps old half stood.roots stood.written stood.since stood.number follows device_now in
    let trees_same : mid.trees.items ≡ stand.trees.items = c.in-Err-write_blocks.ensures.trees in
    let lives_same : mid.lives ≡ lives = c.in-Err-write_blocks.ensures.lives in
    let parts_same : known_in mid.parts ≡ had = fun_ext c.in-Err-write_blocks.ensures.parts in
    let listed : c.deref.result.now ≡ captured = c.deref.ensures.value in
    let rev = first_are e running stand.floor n fin in
    old_looked D before start looked (λ x is. g.met.D.Disk.only_now _ x is) old n hub stand _ last c.in-Err-write_blocks.error (record {
      left = put.left;
      kept = put.kept;
      on = λ safe.
          let runs = put.runs safe in
          old_ground seen images hub ascend stand old stood (D.seen last) (D.may_leave last) captured mid.place.blocks _ runs
          (λ u. c.give_up.ensures.cells old (subst (λ (y : List Lone). AreLone old y) (sym lives_same) stood.since.lone) (subst (λ (y : List Lone). AreOwn old y c.deref.result.now) (sym lives_same) (subst (λ (l : List Addr). AreOwn old lives l) (sym listed) runs.own))
          (λ v. runs.cells v ∙ (ap (λ (l : List Addr). half_cell old lives l v) (sym listed) ∙ ap (λ (y : List Lone). half_cell old y c.deref.result.now v) (sym lives_same))) u ∙ ap (λ (y : List Lone). start_cell old y u) lives_same) (c.give_up.ensures.units runs.units) c.give_up.ensures.end c.give_up.ensures.synced c.give_up.ensures.held c.in-Err-write_blocks.ensures.slot c.in-Err-write_blocks.ensures.number trees_same c.in-Err-write_blocks.ensures.stood c.in-Err-write_blocks.ensures.parts lives_same;
      full = λ is. record {
        old = old;
        has = stood.stands.seen_has;
        space = stand.place.blocks.space;
        space_is = free_space seen images stand.place.blocks old lives stood.stands stood.since.lone stood.cells stood.units stood.within;
        none = subst (λ (l : List Table). LacksPlace seen (D.capacity start) old leaves had n stand.place.blocks.space l) rev (subst (λ (s : Space). LacksPlace seen (D.capacity start) old leaves had n s first) c.begin.ensures.space (put.lacks is));
      };
      follows =
          subst (λ (y : List Lone). FollowsFrom old known y leaves (known_in mid.parts) mid.trees.items mid.floor n.world) (sym lives_same)
          (subst (λ (l : List TreePlace). FollowsFrom old known lives leaves (known_in mid.parts) l mid.floor n.world) (sym trees_same)
          (subst (λ (x : Written). FollowsFrom old known lives leaves x stand.trees.items mid.floor n.world) (sym parts_same) (subst (λ (x : Name). FollowsFrom old known lives leaves had stand.trees.items x n.world) (sym c.in-Err-write_blocks.ensures.floor) follows)));
      since = λ safe. subst (λ (y : List Lone). AreOnDevice (D.seen last) y leaves n.world.shelf) (sym lives_same)
          (device_kept seen (D.seen last) c.begin.new.blocks old lives hub.dir had stood.since half.runs.cells half.runs.units half.runs.within (put.keeps safe) n.world.shelf device_now);
    })
