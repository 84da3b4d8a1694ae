use Rattle.std.proofs.Common.{◌≡◌, suc, set, refl, ap, ◌∙◌, arith}
use Rattle.pool_law.specs.Growing.{looks, raises}
use Rattle.latch_table.specs.Tables.{note_of}
use Rattle.pool_trials.proofs.Held.{frame_held, frame_may_put, frame_note, frame_number, frame_put, frame_same, frame_seat, frame_told, frame_was, not_held, set_twice}
use Rattle.pool_trials.proofs.rise.raise.Goals as goal

pub latch-requires-clause-apart : goal.latch-requires-clause-apart
latch-requires-clause-apart g c =
    not_held c.args.seat.now (suc c.args.f) c.requires.idle.1

pub add-value-requires : goal.add-value-requires
add-value-requires g c =
    record { held = frame_held c.args.table.now looks raises c.args.seat.now c.latch.new.seat c.args.f c.requires.idle c.requires.frame c.latch.ensures.latches }

pub unlatch-requires-clause-seat : goal.unlatch-requires-clause-seat
unlatch-requires-clause-seat g c =
    frame_seat c.args.table.now looks raises c.args.seat.now c.latch.new.seat c.args.f c.requires.idle c.requires.frame c.latch.ensures.latches c.add-value.new.seat c.add-value.result c.latch.ensures.seat c.add-value.ensures.seat

pub unlatch-requires-clause-puts : goal.unlatch-requires-clause-puts
unlatch-requires-clause-puts g c =
    let a = c.add-value.ensures.frame in
    let same : frame_was c.args.table.now looks raises c.args.seat.now c.latch.new.seat c.args.f c.requires.idle c.requires.frame c.latch.ensures.latches ≡ a.0 = frame_same c.args.table.now looks raises c.args.seat.now c.latch.new.seat c.args.f c.requires.idle c.requires.frame c.latch.ensures.latches a.0 a.1 in
    let less = a.2 in
    frame_may_put c.args.table.now looks raises c.args.seat.now c.latch.new.seat c.args.f c.requires.idle c.requires.frame c.latch.ensures.latches c.add-value.new.seat c.add-value.result c.latch.ensures.seat c.add-value.ensures.seat (set (note_of c.add-value.new.seat) c.args.f c.add-value.result) (omega arith, refl)

pub returns-clause-idle : goal.returns-clause-idle
returns-clause-idle g c =
    (c.unlatch.ensures.seat, (frame_put c.args.table.now looks raises c.args.seat.now c.latch.new.seat c.args.f c.requires.idle c.requires.frame c.latch.ensures.latches c.add-value.new.seat c.add-value.result c.latch.ensures.seat c.add-value.ensures.seat c.unlatch.new.seat c.unlatch.ensures.put).0)

pub returns-clause-number : goal.returns-clause-number
returns-clause-number g c =
    frame_number c.args.table.now looks raises c.args.seat.now c.latch.new.seat c.args.f c.requires.idle c.requires.frame c.latch.ensures.latches c.add-value.new.seat c.add-value.result c.latch.ensures.seat c.add-value.ensures.seat c.unlatch.new.seat c.latch.ensures.number c.unlatch.ensures.number

pub returns-clause-note : goal.returns-clause-note
returns-clause-note g c =
    (frame_put c.args.table.now looks raises c.args.seat.now c.latch.new.seat c.args.f c.requires.idle c.requires.frame c.latch.ensures.latches c.add-value.new.seat c.add-value.result c.latch.ensures.seat c.add-value.ensures.seat c.unlatch.new.seat c.unlatch.ensures.put).1.1 ∙ (ap (λ l. set l c.args.f c.add-value.result) (frame_note c.args.table.now looks raises c.args.seat.now c.latch.new.seat c.args.f c.requires.idle c.requires.frame c.latch.ensures.latches c.add-value.new.seat c.add-value.result c.latch.ensures.seat c.add-value.ensures.seat ∙ frame_told c.args.table.now looks raises c.args.seat.now c.latch.new.seat c.args.f c.requires.idle c.requires.frame c.latch.ensures.latches) ∙ set_twice (note_of c.args.seat.now) c.args.f (frame_was c.args.table.now looks raises c.args.seat.now c.latch.new.seat c.args.f c.requires.idle c.requires.frame c.latch.ensures.latches) c.add-value.result)
