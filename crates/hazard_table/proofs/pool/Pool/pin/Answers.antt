use Rattle.std.proofs.Common.{ap, refl}
use Rattle.latch_table.specs.Tables.{knows, note_of}
use Rattle.hazard_law.specs.declared.known.Hazards.{Hazards}
use Rattle.hazard_law.specs.declared.known.Mark.TheVariants.{Names}
use Rattle.hazard_law.specs.Safety.{with_mark}
use Rattle.hazard_table.proofs.PinSteps.{knows_after, may_clear_next, may_validate_next, named_here, pins, pins_not}
use Rattle.hazard_table.proofs.pool.Pool.pin.Goals as goal

pub validate-requires-clause-named : goal.validate-requires-clause-named
validate-requires-clause-named g c =
    let p = c.publish.ensures.published in
    named_here (note_of c.args.seat.now) (note_of c.publish.new.seat) p.1.0 c.args.word c.args.f c.requires.word c.requires.session.marks p.1.2

pub validate-requires-clause-last : goal.validate-requires-clause-last
validate-requires-clause-last g c =
    ap (λ (z : Hazards g.row.L-Note.Denot). z.last_word) c.publish.ensures.published.1.2

pub validate-requires-clause-beside : goal.validate-requires-clause-beside
validate-requires-clause-beside g c =
    let p = c.publish.ensures.published in
    let e = knows_after c.args.seat.now c.publish.new.seat (with_mark (note_of c.args.seat.now) p.1.0 c.args.word (Names c.args.f)) p.1.2 c.publish.ensures.pieces in
    may_validate_next g.L.Law.finds g.L.Law.turns (knows c.args.seat.now) (knows c.publish.new.seat) c.args.word c.args.f p.0 p.1.0 e p.1.1 c.requires.beside

pub unpin-requires-clause-beside : goal.unpin-requires-clause-beside
unpin-requires-clause-beside g c =
    let p = c.publish.ensures.published in
    let e = knows_after c.args.seat.now c.publish.new.seat (with_mark (note_of c.args.seat.now) p.1.0 c.args.word (Names c.args.f)) p.1.2 c.publish.ensures.pieces in
    let d = knows_after c.publish.new.seat c.validate.new.seat (note_of c.validate.new.seat) refl c.in-Again.ensures.pieces in
    may_clear_next g.L.Law.finds g.L.Law.turns (knows c.args.seat.now) (knows c.publish.new.seat) c.args.word c.args.f p.0 p.1.0 e p.1.1 (knows c.validate.new.seat) (note_of c.validate.new.seat) c.args.g c.in-Again.seen c.requires.beside d c.in-Again.ensures.validated

pub returns-in-Pinned-clause-pinned : goal.returns-in-Pinned-clause-pinned
returns-in-Pinned-clause-pinned g c =
    let p = c.publish.ensures.published in
    let e = knows_after c.args.seat.now c.publish.new.seat (with_mark (note_of c.args.seat.now) p.1.0 c.args.word (Names c.args.f)) p.1.2 c.publish.ensures.pieces in
    pins g.L.Law.finds g.L.Law.turns (knows c.args.seat.now) (knows c.publish.new.seat) c.args.word c.args.f p.0 p.1.0 e p.1.1 (note_of c.validate.new.seat) c.args.g c.in-Pinned.ensures.validated

pub returns-in-Again-clause-pinned : goal.returns-in-Again-clause-pinned
returns-in-Again-clause-pinned g c =
    let p = c.publish.ensures.published in
    let e = knows_after c.args.seat.now c.publish.new.seat (with_mark (note_of c.args.seat.now) p.1.0 c.args.word (Names c.args.f)) p.1.2 c.publish.ensures.pieces in
    let d = knows_after c.publish.new.seat c.validate.new.seat (note_of c.validate.new.seat) refl c.in-Again.ensures.pieces in
    pins_not g.L.Law.finds g.L.Law.turns (knows c.args.seat.now) (knows c.publish.new.seat) c.args.word c.args.f p.0 p.1.0 e p.1.1 (knows c.validate.new.seat) (note_of c.validate.new.seat) (note_of c.unpin.new.seat) c.args.g c.in-Again.seen d c.in-Again.ensures.validated c.unpin.ensures.unpinned
