use Rattle.std.proofs.Common.{◌∙◌, refl, take}
use Rattle.ckpt_step.proofs.PartRooms.{room_kept, room_step}
use Rattle.ckpt_step.proofs.writing.reserve_parts.Goals as goal

pub loop-part-init : goal.loop-part-init
loop-part-init c = record { known = λ leaf. refl; room = tt }

pub loop-part-preserved : goal.loop-part-preserved
loop-part-preserved c =
    let now = c.loop-part.invariant in
    let i = c.loop-part.part-index in
    let next = c.reserve.new.self in
    record {
      known = λ leaf. c.in_ok-reserve.ensures.known leaf ∙ now.known leaf;
      room = room_step next c.args.written.now i c.part-item.result c.loop-part-test.true c.part-item.is (room_kept c.loop-part.parts next (take i c.args.written.now) c.in_ok-reserve.ensures.kept now.room) c.in_ok-reserve.ensures.room;
    }
