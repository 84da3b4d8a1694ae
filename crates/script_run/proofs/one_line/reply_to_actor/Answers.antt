use Rattle.std.proofs.Common.{◌∙◌}
use Rattle.std.specs.Prelude.{Ok}
use Rattle.disk_model.proofs.Crash.{looked_same, same_disk_then}
use Rattle.script_run.specs.Faults.{RepliesFault}
use Rattle.script_run.proofs.Holding.{actor_told, ready_kept}
use Rattle.script_run.proofs.Telling.{later_faults}
use Rattle.script_run.proofs.one_line.reply_to_actor.Goals as goal

pub returns : goal.returns
returns g c =
    let now = c.requires.now in
    let store = c.args.store.now in
    let disk = c.args.disk.now in
    let middle = c.reply_of-told.new.store in
    let between = c.reply_of-told.new.disk in
    let store' = c.make_room_beside.new.self in
    let disk' = c.make_room_beside.new.disk in
    let told = c.reply_of-told.result in
    let keeps = c.reply_of-told.ensures.keeps in
    let looked = looked_same g.D.Disk disk between keeps.looked keeps.home in
    record {
      replies = λ honest first s at same none.
          let r = c.reply_of-told.ensures.replied honest first s (record { held = at.held; device = at.device; frames = at.frames; progress = at.progress }) same in
          actor_told g.D.Disk first store middle store' disk between disk' c.args.line s told c.reply_of-told.new.kept now none at r c.make_room_beside.ensures.frames c.make_room_beside.ensures.running (c.make_room_beside.ensures.room (looked.same ∙ honest) first r.later.world r.later.first r.later.made r.held);
      told = later_faults g.D.Disk store middle store' disk between disk' (RepliesFault (Ok told)) looked.later c.make_room_beside.ensures.disk.later c.reply_of-told.ensures.told c.make_room_beside.ensures.told;
      ready = c.make_room_beside.ensures.ready (ready_kept g.D.Disk store middle disk between keeps c.requires.ready);
      disk = same_disk_then g.D.Disk disk between disk' looked c.make_room_beside.ensures.disk;
    }
