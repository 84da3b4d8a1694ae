use Rattle.std.proofs.Common.{refl, sym, ap, subst, ◌∙◌, ◌+◌, ◌<◌, ℕ, List, Option, [], length, IsTrue, arith}
use Rattle.std.specs.Prelude.{take}
use Rattle.std.proofs.lemmas.Result.{err_from_is_err_and}
use Rattle.disk_model.proofs.Crash.{same_disk_then}
use Rattle.device_layout.specs.declared.addr.Addr.{Addr}
use Rattle.engine_world.proofs.EditedLeaves.{some-at}
use Rattle.hist_gather.proofs.Then.{place_then}
use Rattle.tree_open.specs.declared.place.TreePlace.{TreePlace}
use Rattle.ckpt_step.specs.Goings.{Going}
use Rattle.ckpt_step.specs.Rooms.{known_in}
use Rattle.ckpt_step.specs.Trees.{AreTold, placed_by}
use Rattle.ckpt_step.specs.declared.parts.LeafPart.{LeafPart}
use Rattle.ckpt_step.proofs.GoingEnds.{ended}
use Rattle.ckpt_step.proofs.GoingFails.{failed}
use Rattle.ckpt_step.proofs.GoingLinks.{device_now}
use Rattle.ckpt_step.proofs.GoingMore.{one_more}
use Rattle.ckpt_step.proofs.Goings.{IsAtTable, IsBegun, begun, has, may_go}
use Rattle.ckpt_step.proofs.TableParts.{at_take, take_at, take_few}
use Rattle.ckpt_step.proofs.Then.{then_few}
use Rattle.ckpt_step.proofs.Told.{placed_empty, told_empty}
use Rattle.ckpt_step.proofs.trees.write_trees.Goals as goal

pub loop-place-init : goal.loop-place-init
loop-place-init g c = record {
  held = c.requires.held;
  told = subst (λ (l : List (Option TreePlace)). AreTold c.args.was.trees.now l) (sym c.requires.none) (told_empty c.args.was.trees.now);
  disk = record { same = refl; room = refl; home = refl; later = omega arith };
  ready = c.requires.ready;
  count = ap length c.requires.none;
  going = λ h n moment many old half roots made since follows device.
      let D = g.D.Disk in
      let e = c.args.engine.now in
      let every = e.hub.tables.tables in
      let known = take c.args.tables every in
      let was = c.args.was.trees.now in
      let had = known_in c.args.was.parts.now in
      let books = c.args.blocks.now in
      let d = c.args.disk.now in
      let on : IsBegun D old was c.args.was.lives.now e.hub.dir had every e.hub.tables.next books d = record { dir = moment.stands.dir; half = half; roots = roots; made = made; since = since; ascend = moment.stands.catalog.numbers } in
      subst (λ (l : List TreePlace). Going D old was c.args.was.lives.now e.hub.dir.leaves had n known books books l c.args.taken.now.parts.items c.args.taken.now.captured.items 0 d d) (sym (ap (λ (l : List (Option TreePlace)). placed_by was l) c.requires.none ∙ placed_empty was))
      (subst (λ (l : List LeafPart). Going D old was c.args.was.lives.now e.hub.dir.leaves had n known books books [] l c.args.taken.now.captured.items 0 d d) (sym c.requires.unwritten)
      (subst (λ (l : List Addr). Going D old was c.args.was.lives.now e.hub.dir.leaves had n known books books [] [] l 0 d d) (sym c.requires.unlisted)
      (begun n known on (λ x left. g.met.D.Disk.only_now _ x left))));
}

pub loop-place-preserved : goal.loop-place-preserved
loop-place-preserved g c = record {
  held = c.take_table.ensures.held;
  told = c.in_ok-take_table.ensures.told;
  disk = same_disk_then g.D.Disk c.args.disk.now c.loop-place.disk c.take_table.new.disk c.loop-place.invariant.disk c.take_table.ensures.disk;
  ready = λ h. c.in_ok-take_table.ensures.ready (sym c.take_table.ensures.disk.same ∙ h);
  count = c.in_ok-take_table.ensures.count ∙ ap (λ (k : ℕ). k + 1) c.loop-place.invariant.count;
  going = λ h n moment many old half roots made since follows device.
      let D = g.D.Disk in
      let e = c.args.engine.now in
      let every = e.hub.tables.tables in
      let known = take c.args.tables every in
      let was = c.args.was.trees.now in
      let had = known_in c.args.was.parts.now in
      let place : ℕ = c.loop-place.place in
      let hm : IsTrue (D.honest c.loop-place.disk) = c.loop-place.invariant.disk.same ∙ h in
      let m = n.world.machine in
      let valid = moment.stands.valid in
      let first : place < c.args.tables = c.loop-place-test.true in
      let lt : place < length every = omega (arith, first, many, then_few m n.checkpoint every valid moment.runs moment.stands.made) in
      let t = some-at every place lt in
      let stood = place_then m n.checkpoint every valid moment.runs moment.stands.made place t.0 (omega (arith, first, many)) t.1 in
      let on : IsAtTable D old was c.args.was.lives.now e.hub.dir had n every known e.hub.tables.next c.args.blocks.now c.args.disk.now place t.0 c.loop-place.blocks (placed_by was c.loop-place.taken.trees.items) c.loop-place.taken.parts.items c.loop-place.taken.captured.items c.loop-place.disk = record {
        begun = record { dir = moment.stands.dir; half = half; roots = roots; made = made; since = since; ascend = moment.stands.catalog.numbers };
        front = λ j u at. (take_at every c.args.tables j u at).0;
        going = c.loop-place.invariant.going h n moment many old half roots made since follows device;
        at = at_take every c.args.tables place t.0 t.1 first;
        room = c.loop-place.invariant.disk.room;
      } in
      one_more on (c.in_ok-take_table.ensures.goes hm n moment t.0 t.1 stood old c.args.blocks.now (may_go on) (has on) follows (device_now on n.world.shelf device)) c.take_table.ensures.held (place + 1) (omega arith);
}

pub returns-clause-writes : goal.returns-clause-writes
returns-clause-writes g c h n moment many old half roots made since follows device =
    let e = c.args.engine.now in
    let every = e.hub.tables.tables in
    let was = c.args.was.trees.now in
    let on : IsBegun g.D.Disk old was c.args.was.lives.now e.hub.dir (known_in c.args.was.parts.now) every e.hub.tables.next c.args.blocks.now c.args.disk.now = record { dir = moment.stands.dir; half = half; roots = roots; made = made; since = since; ascend = moment.stands.catalog.numbers } in
    ended on (take c.args.tables every) n c.loop-place.place c.loop-place.blocks (placed_by was c.loop-place.taken.trees.items) c.loop-place.taken.parts.items c.loop-place.taken.captured.items c.loop-place.disk
    (c.loop-place.invariant.going h n moment many old half roots made since follows device) (omega (arith, c.loop-place-test.false, take_few every c.args.tables))

pub returns-clause-ready : goal.returns-clause-ready
returns-clause-ready g c h = c.loop-place.invariant.ready (c.loop-place.invariant.disk.same ∙ h)

pub returns-in_err-take_table-clause-writes : goal.returns-in_err-take_table-clause-writes
returns-in_err-take_table-clause-writes g c h n moment many old half roots made since follows device =
    let D = g.D.Disk in
    let e = c.args.engine.now in
    let every = e.hub.tables.tables in
    let known = take c.args.tables every in
    let was = c.args.was.trees.now in
    let had = known_in c.args.was.parts.now in
    let place : ℕ = c.loop-place.place in
    let hm : IsTrue (D.honest c.loop-place.disk) = c.loop-place.invariant.disk.same ∙ h in
    let m = n.world.machine in
    let valid = moment.stands.valid in
    let first : place < c.args.tables = c.loop-place-test.true in
    let lt : place < length every = omega (arith, first, many, then_few m n.checkpoint every valid moment.runs moment.stands.made) in
    let t = some-at every place lt in
    let stood = place_then m n.checkpoint every valid moment.runs moment.stands.made place t.0 (omega (arith, first, many)) t.1 in
    let on : IsAtTable D old was c.args.was.lives.now e.hub.dir had n every known e.hub.tables.next c.args.blocks.now c.args.disk.now place t.0 c.loop-place.blocks (placed_by was c.loop-place.taken.trees.items) c.loop-place.taken.parts.items c.loop-place.taken.captured.items c.loop-place.disk = record {
      begun = record { dir = moment.stands.dir; half = half; roots = roots; made = made; since = since; ascend = moment.stands.catalog.numbers };
      front = λ j u at. (take_at every c.args.tables j u at).0;
      going = c.loop-place.invariant.going h n moment many old half roots made since follows device;
      at = at_take every c.args.tables place t.0 t.1 first;
      room = c.loop-place.invariant.disk.room;
    } in
    let p = err_from_is_err_and c.from_residual.result c.from_residual.ensures.1 in
    rw (p.1, p.2) (failed on c.take_table.new.blocks (placed_by was c.take_table.new.taken.trees.items) c.take_table.new.taken.parts.items c.take_table.new.taken.captured.items c.take_table.new.disk c.in_err-take_table.field-0.0
    (c.in_err-take_table.ensures.goes hm n moment t.0 t.1 stood old c.args.blocks.now (may_go on) (has on) follows (device_now on n.world.shelf device)))
