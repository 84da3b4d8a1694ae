use Rattle.std.proofs.Common.{[]}
use Rattle.std.specs.Prelude.{Ok}
use Rattle.wt_tool.proofs.Rooms.{room_fails, room_kept, room_made, room_none}
use Rattle.wt_tool.proofs.Went.{none_went, out_of, room_failed, room_went}
use Rattle.wt_tool.proofs.load.make_room.Goals as goal

pub returns-then-not-due-clause-out : goal.returns-then-not-due-clause-out
returns-then-not-due-clause-out g c h start first w holds = room_none g.D.Disk start first w c.args.store.now c.args.disk.now holds

pub returns-then-not-due-clause-went : goal.returns-then-not-due-clause-went
returns-then-not-due-clause-went g c = out_of g.D.Disk c.args.store.now c.args.store.now c.args.disk.now c.args.disk.now (Ok tt) (none_went g.D.Disk c.args.store.now c.args.disk.now)

pub returns-then-not-due-clause-looked : goal.returns-then-not-due-clause-looked
returns-then-not-due-clause-looked g c = λ no. none_went g.D.Disk c.args.store.now c.args.disk.now

pub returns-in-Ok-clause-out : goal.returns-in-Ok-clause-out
returns-in-Ok-clause-out g c h start first w holds = room_made g.D.Disk start first w c.args.store.now c.write_out.new.self c.args.disk.now c.write_out.new.disk holds c.write_out.ensures.frames (c.in-Ok.ensures.writes h start w first [] holds.held)

pub returns-in-Ok-clause-went : goal.returns-in-Ok-clause-went
returns-in-Ok-clause-went g c = room_went g.D.Disk c.args.store.now c.write_out.new.self c.args.disk.now c.write_out.new.disk c.write_out.ensures.ready c.write_out.ensures.disk c.write_out.ensures.told

pub returns-then-is_disk_fault-clause-out : goal.returns-then-is_disk_fault-clause-out
returns-then-is_disk_fault-clause-out g c h start first w holds =
    room_fails g.D.Disk start first w c.args.store.now c.write_out.new.self c.args.disk.now c.write_out.new.disk holds c.write_out.ensures.frames c.in-Err.refusal (c.in-Err.ensures.fault (c.is_disk_fault.ensures.yes c.if-is_disk_fault.true)) (c.in-Err.ensures.writes h start w first [] holds.held)

pub returns-then-is_disk_fault-clause-went : goal.returns-then-is_disk_fault-clause-went
returns-then-is_disk_fault-clause-went g c =
    let is = c.is_disk_fault.ensures.yes c.if-is_disk_fault.true in
    room_failed g.D.Disk c.args.store.now c.write_out.new.self c.args.disk.now c.write_out.new.disk c.write_out.ensures.ready c.write_out.ensures.disk c.write_out.ensures.told c.in-Err.refusal is (c.in-Err.ensures.fault is)

pub returns-else-is_disk_fault-clause-out : goal.returns-else-is_disk_fault-clause-out
returns-else-is_disk_fault-clause-out g c h start first w holds =
    room_kept g.D.Disk start first w c.args.store.now c.write_out.new.self c.args.disk.now c.write_out.new.disk holds c.write_out.ensures.frames c.in-Err.refusal (c.is_disk_fault.ensures.no c.if-is_disk_fault.false) (c.in-Err.ensures.writes h start w first [] holds.held)

pub returns-else-is_disk_fault-clause-went : goal.returns-else-is_disk_fault-clause-went
returns-else-is_disk_fault-clause-went g c = room_went g.D.Disk c.args.store.now c.write_out.new.self c.args.disk.now c.write_out.new.disk c.write_out.ensures.ready c.write_out.ensures.disk c.write_out.ensures.told
