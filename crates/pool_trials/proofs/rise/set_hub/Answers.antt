use Rattle.std.proofs.Common.{◌≡◌, refl, ap, ◌∙◌, arith, rules}
use Rattle.pool_law.specs.Growing.{looks, raises, total}
use Rattle.latch_table.specs.Tables.{note_of}
use Rattle.pool_trials.proofs.Held.{hub_held, hub_may_put, hub_note, hub_number, hub_put, hub_seat, hub_told, not_held}
use Rattle.pool_trials.proofs.rise.set_hub.Goals as goal

pub latch-requires-clause-apart : goal.latch-requires-clause-apart
latch-requires-clause-apart g c =
    not_held c.args.seat.now 0 c.requires.idle.1

pub write_hub-requires : goal.write_hub-requires
write_hub-requires g c =
    (search rules, hub_held c.args.table.now looks raises c.args.seat.now c.latch.new.seat c.requires.idle c.requires.hub c.latch.ensures.latches)

pub unlatch-requires-clause-seat : goal.unlatch-requires-clause-seat
unlatch-requires-clause-seat g c =
    hub_seat c.args.table.now looks raises c.args.seat.now c.latch.new.seat c.requires.idle c.requires.hub c.latch.ensures.latches c.write_hub.new.seat c.args.value c.latch.ensures.seat c.write_hub.ensures

pub unlatch-requires-clause-puts : goal.unlatch-requires-clause-puts
unlatch-requires-clause-puts g c =
    let n = hub_note c.args.table.now looks raises c.args.seat.now c.latch.new.seat c.requires.idle c.requires.hub c.latch.ensures.latches c.write_hub.new.seat c.args.value c.latch.ensures.seat c.write_hub.ensures ∙ hub_told c.args.table.now looks raises c.args.seat.now c.latch.new.seat c.requires.idle c.requires.hub c.latch.ensures.latches in
    let few : total (note_of c.write_hub.new.seat) ≡ total (note_of c.args.seat.now) = ap total n in
    let less = c.requires.few in
    hub_may_put c.args.table.now looks raises c.args.seat.now c.latch.new.seat c.requires.idle c.requires.hub c.latch.ensures.latches c.write_hub.new.seat c.args.value c.latch.ensures.seat c.write_hub.ensures (note_of c.write_hub.new.seat) (omega arith, refl)

pub returns-clause-idle : goal.returns-clause-idle
returns-clause-idle g c =
    (c.unlatch.ensures.seat, (hub_put c.args.table.now looks raises c.args.seat.now c.latch.new.seat c.requires.idle c.requires.hub c.latch.ensures.latches c.write_hub.new.seat c.args.value c.latch.ensures.seat c.write_hub.ensures c.unlatch.new.seat c.unlatch.ensures.put).0)

pub returns-clause-number : goal.returns-clause-number
returns-clause-number g c =
    hub_number c.args.table.now looks raises c.args.seat.now c.latch.new.seat c.requires.idle c.requires.hub c.latch.ensures.latches c.write_hub.new.seat c.args.value c.latch.ensures.seat c.write_hub.ensures c.unlatch.new.seat c.latch.ensures.number c.unlatch.ensures.number
