use Rattle.std.proofs.Common.{◌≡◌, suc, set, refl, arith}
use Rattle.pool_law.specs.Growing.{looks, raises}
use Rattle.latch_table.specs.Tables.{note_of}
use Rattle.pool_trials.proofs.Held.{frame_held, frame_may_put, frame_number, frame_put, frame_same, frame_seat, frame_was, not_held}
use Rattle.pool_trials.proofs.rise.tries.Goals as goal

pub try_latch-requires-clause-apart : goal.try_latch-requires-clause-apart
try_latch-requires-clause-apart g c =
    not_held c.args.seat.now (suc c.args.f) c.requires.idle.1

pub add-same-requires : goal.add-same-requires
add-same-requires g c =
    record { held = frame_held c.args.table.now looks raises c.args.seat.now c.try_latch.new.seat c.args.f c.requires.idle c.requires.frame c.in-Held.ensures.latches }

pub unlatch-requires-clause-seat : goal.unlatch-requires-clause-seat
unlatch-requires-clause-seat g c =
    frame_seat c.args.table.now looks raises c.args.seat.now c.try_latch.new.seat c.args.f c.requires.idle c.requires.frame c.in-Held.ensures.latches c.add-same.new.seat c.add-same.result c.in-Held.ensures.seat c.add-same.ensures.seat

pub unlatch-requires-clause-puts : goal.unlatch-requires-clause-puts
unlatch-requires-clause-puts g c =
    let a = c.add-same.ensures.frame in
    let same : frame_was c.args.table.now looks raises c.args.seat.now c.try_latch.new.seat c.args.f c.requires.idle c.requires.frame c.in-Held.ensures.latches ≡ a.0 = frame_same c.args.table.now looks raises c.args.seat.now c.try_latch.new.seat c.args.f c.requires.idle c.requires.frame c.in-Held.ensures.latches a.0 a.1 in
    let less = a.2 in
    frame_may_put c.args.table.now looks raises c.args.seat.now c.try_latch.new.seat c.args.f c.requires.idle c.requires.frame c.in-Held.ensures.latches c.add-same.new.seat c.add-same.result c.in-Held.ensures.seat c.add-same.ensures.seat (set (note_of c.add-same.new.seat) c.args.f c.add-same.result) (omega arith, refl)

pub returns-in-Held-clause-idle : goal.returns-in-Held-clause-idle
returns-in-Held-clause-idle g c =
    (c.unlatch.ensures.seat, (frame_put c.args.table.now looks raises c.args.seat.now c.try_latch.new.seat c.args.f c.requires.idle c.requires.frame c.in-Held.ensures.latches c.add-same.new.seat c.add-same.result c.in-Held.ensures.seat c.add-same.ensures.seat c.unlatch.new.seat c.unlatch.ensures.put).0)

pub returns-in-Held-clause-number : goal.returns-in-Held-clause-number
returns-in-Held-clause-number g c =
    frame_number c.args.table.now looks raises c.args.seat.now c.try_latch.new.seat c.args.f c.requires.idle c.requires.frame c.in-Held.ensures.latches c.add-same.new.seat c.add-same.result c.in-Held.ensures.seat c.add-same.ensures.seat c.unlatch.new.seat c.in-Held.ensures.number c.unlatch.ensures.number
