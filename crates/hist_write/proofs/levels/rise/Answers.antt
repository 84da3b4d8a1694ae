use Rattle.std.proofs.Common.{◌≡◌, ◌∙◌, ◌++◌, ◌+◌, ◌*◌, ◌≤◌, [], List, length, ap, sym, refl, arith, append_assoc}
use Rattle.std.specs.Prelude.{map}
use Rattle.std.proofs.lemmas.List.{append-nil}
use Rattle.disk_model.proofs.Crash.{same_disk_then}
use Rattle.device_layout.specs.declared.addr.Addr.{Addr}
use Rattle.device_layout.specs.declared.link.Link.{Link}
use Rattle.stored.specs.Records.{Root}
use Rattle.stored.specs.HistoryTree.{HistoryEntry}
use Rattle.hist_write.specs.Steps.{top_link}
use Rattle.tree_write.proofs.LeafSteps.{want_space}
use Rattle.hist_write.proofs.Rising.{level_next, one_left, stand_begun, stand_next, up_begun, up_ended, up_failed, up_next, up_stopped}
use Rattle.hist_write.proofs.levels.rise.Goals as goal

pub returns-in_default-clause-rises : goal.returns-in_default-clause-rises
returns-in_default-clause-rises g c h old first may =
    let D = g.D.Disk in
    let d = c.args.disk.now in
    let es = c.args.leaves.items in
    ([], sym (append-nil c.args.captured.now.items), up_stopped D old first c.args.blocks.now d es es 0 [] c.args.blocks.now d _ (up_begun D old first c.args.blocks.now d es may (λ d left. g.met.D.Disk.only_now _ d left)) (λ is. want_space is))

pub loop-alloc-init : goal.loop-alloc-init
loop-alloc-init g c = record {
  disk = record { same = refl; room = refl; home = refl; later = omega arith };
  held = c.requires.held;
  ready = c.requires.ready;
  low = omega arith;
  few = omega (arith, c.args.leaves.ok, c.args.leaves.small);
  fit = c.requires.fit;
  climbs = c.requires.climbs;
  some = c.requires.some;
  up = λ h old first may.
      let es = c.args.leaves.items in (
        [],
        sym (append-nil c.args.captured.now.items),
        stand_begun g.D.Disk old first c.args.blocks.now c.args.disk.now es may (λ d left. g.met.D.Disk.only_now _ d left) _
            (c.in-Ok.ensures ∙ (append-nil _ ∙ ap (λ (l : List HistoryEntry). map {A = HistoryEntry} (λ e. e.link.addr) l) c.deref.ensures.value)),
      );
}

pub returns-in-Err-clause-rises : goal.returns-in-Err-clause-rises
returns-in-Err-clause-rises g c h old first may =
    let D = g.D.Disk in
    let now = c.loop-alloc.invariant in
    let own = c.loop-alloc.entries.items in
    let many : 2 ≤ length own = omega (arith, c.loop-alloc-test.true, c.len.ensures, c.loop-alloc.entries.ok.0) in
    let up = now.up h old first may in
    let wrote = c.in-Err.ensures.writes (now.disk.same ∙ h) old first up.2.up.captures.may in (
      up.0 ++ wrote.0,
      wrote.1 ∙ (ap (λ (l : List Addr). l ++ wrote.0) up.1 ∙ append_assoc c.args.captured.now.items up.0 wrote.0),
      up_failed D old first c.args.blocks.now c.args.disk.now c.args.leaves.items own c.loop-alloc.level up.0 c.loop-alloc.blocks c.loop-alloc.disk up.2.up many now.disk.room c.deref-in-loop-alloc.result.now c.deref-in-loop-alloc.ensures.value now.low now.few now.fit now.climbs
          wrote.0 c.write_level.new.blocks c.write_level.new.disk c.in-Err.error wrote.2,
    )

pub returns-in-Err-put_addrs-clause-rises : goal.returns-in-Err-put_addrs-clause-rises
returns-in-Err-put_addrs-clause-rises g c h old first may =
    let D = g.D.Disk in
    let now = c.loop-alloc.invariant in
    let own = c.loop-alloc.entries.items in
    let above = c.in-Ok-write_level.above in
    let many : 2 ≤ length own = omega (arith, c.loop-alloc-test.true, c.len.ensures, c.loop-alloc.entries.ok.0) in
    let up = now.up h old first may in
    let wrote = c.in-Ok-write_level.ensures.writes (now.disk.same ∙ h) old first up.2.up.captures.may in (
      up.0 ++ wrote.0,
      wrote.1 ∙ (ap (λ (l : List Addr). l ++ wrote.0) up.1 ∙ append_assoc c.args.captured.now.items up.0 wrote.0),
      up_stopped D old first c.args.blocks.now c.args.disk.now c.args.leaves.items above.items (c.loop-alloc.level + 1) (up.0 ++ wrote.0) c.write_level.new.blocks c.write_level.new.disk _
          (up_next D old first c.args.blocks.now c.args.disk.now c.args.leaves.items own c.loop-alloc.level up.0 c.loop-alloc.blocks c.loop-alloc.disk up.2.up many now.disk.room c.deref-in-loop-alloc.result.now c.deref-in-loop-alloc.ensures.value above
          wrote.0 c.write_level.new.blocks c.write_level.new.disk wrote.2) (λ is. want_space is),
    )

pub loop-alloc-preserved : goal.loop-alloc-preserved
loop-alloc-preserved g c =
    let D = g.D.Disk in
    let now = c.loop-alloc.invariant in
    let own = c.loop-alloc.entries.items in
    let above = c.in-Ok-write_level.above in
    let done = c.in-Ok-write_level.ensures in
    let many : 2 ≤ length own = omega (arith, c.loop-alloc-test.true, c.len.ensures, c.loop-alloc.entries.ok.0) in
    let same = c.deref-in-loop-alloc.ensures.value in
    let shrinks : 3 * length above.items ≤ length own + 2 = omega (arith, done.shrinks, ap (λ (l : List HistoryEntry). length l) same) in
    let next = level_next c.loop-alloc.level (length own) (length above.items) now.low now.few many shrinks in
    record {
      disk = same_disk_then D c.args.disk.now c.loop-alloc.disk c.write_level.new.disk now.disk done.disk;
      held = done.held;
      ready = λ h. done.ready (now.disk.same ∙ h);
      low = next.0;
      few = next.1;
      fit = done.fit;
      climbs = done.climbs;
      some = done.some;
      up = λ h old first may.
          let up = now.up h old first may in
          let wrote = done.writes (now.disk.same ∙ h) old first up.2.up.captures.may in (
            up.0 ++ wrote.0,
            wrote.1 ∙ (ap (λ (l : List Addr). l ++ wrote.0) up.1 ∙ append_assoc c.args.captured.now.items up.0 wrote.0),
            stand_next D old first c.args.blocks.now c.args.disk.now c.args.leaves.items own c.loop-alloc.level up.0 c.loop-alloc.blocks c.loop-alloc.disk up.2.up many now.disk.room c.deref-in-loop-alloc.result.now same above
                wrote.0 c.write_level.new.blocks c.write_level.new.disk wrote.2 c.loop-alloc.addrs.items c.in-Ok-put_addrs.all.items up.2.stand_is
                (c.in-Ok-put_addrs.ensures ∙ (ap (λ (l : List HistoryEntry). map {A = HistoryEntry} (λ e. e.link.addr) l ++ c.deref-in-loop-alloc-3.result.now) c.deref-in-loop-alloc-2.ensures.value ∙ ap (λ (l : List Addr). map {A = HistoryEntry} (λ e. e.link.addr) above.items ++ l) c.deref-in-loop-alloc-3.ensures.value)),
          );
    }

pub returns-clause-rises : goal.returns-clause-rises
returns-clause-rises g c h old first may =
    let D = g.D.Disk in
    let now = c.loop-alloc.invariant in
    let own = c.loop-alloc.entries.items in
    let few : length own ≤ 1 = omega (arith, c.loop-alloc-test.false, c.len.ensures, c.loop-alloc.entries.ok.0) in
    let up = now.up h old first may in
    let one = one_left own now.some few in
    let link : Link = c.top_link.result in
    let link_is : link ≡ one.0.link = c.top_link.ensures ∙ (ap top_link c.deref-2.ensures.value ∙ ap top_link one.1) in (
      up.0,
      up.1,
      up_ended D old first c.args.blocks.now c.args.disk.now c.args.leaves.items own c.loop-alloc.level up.0 c.loop-alloc.addrs.items c.loop-alloc.blocks c.loop-alloc.disk
          _ up.2 one.0 one.1 (ap (λ (l : Link). let r : Root = record { level = c.loop-alloc.level; link = l } in r) link_is) refl,
    )
