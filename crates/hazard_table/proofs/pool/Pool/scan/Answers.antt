use Rattle.latch_table.specs.Tables.{knows, note_of}
use Rattle.hazard_law.specs.declared.known.Lock.TheVariants.{Locks}
use Rattle.hazard_table.proofs.Staying.{hazard_in, seat_known, session_at, stays, with_lock_same, with_note_same}
use Rattle.hazard_table.proofs.Turning.{did_scan_clear, did_scan_named, may_scan}
use Rattle.hazard_table.proofs.pool.Pool.scan.Goals as goal

pub word_load-seen-requires-clause-word : goal.word_load-seen-requires-clause-word
word_load-seen-requires-clause-word g c =
    hazard_in c.args.self.now.pieces _ c.hazard_at-at.result c.args.session c.args.word c.args.self.now.sized c.requires.scanned.0 c.requires.scanned.1 c.hazard_at-at.ensures

pub word_load-seen-requires-clause-turns : goal.word_load-seen-requires-clause-turns
word_load-seen-requires-clause-turns g c =
    let at = session_at c.args.self.now.pieces c.args.seat.now c.hazard_at-at.result c.args.session c.args.word c.requires.session c.hazard_at-at.ensures in
    let l = c.requires.lock in
    may_scan g.L.Law.finds g.L.Law.turns (knows c.args.seat.now) c.hazard_at-at.result c.args.session c.args.word c.args.f l.0 l.1.0 (seat_known c.args.self.now.pieces c.args.seat.now c.args.session c.requires.session c.requires.scanned.0) c.requires.scanned.1 at l.1.1 c.requires.last c.requires.beside

pub returns-then-seen-name-clause-session : goal.returns-then-seen-name-clause-session
returns-then-seen-name-clause-session g c =
    let at = session_at c.args.self.now.pieces c.args.seat.now c.hazard_at-at.result c.args.session c.args.word c.requires.session c.hazard_at-at.ensures in
    let k = c.requires.lock in
    let d = did_scan_named g.L.Law.finds g.L.Law.turns (knows c.args.seat.now) c.hazard_at-at.result c.args.session c.args.word c.args.f k.0 k.1.0 c.word_load-seen.result c.name_of-name.result (note_of c.word_load-seen.new.seat) at c.requires.last c.name_of-name.ensures c.if-seen-name.true c.word_load-seen.ensures.turns in
    stays c.args.self.now.pieces c.args.seat.now c.word_load-seen.new.seat c.requires.session c.word_load-seen.ensures.seat c.word_load-seen.ensures.pieces _ d.1.2 (with_note_same (note_of c.args.seat.now) d.1.0)

pub returns-then-seen-name-clause-scanned : goal.returns-then-seen-name-clause-scanned
returns-then-seen-name-clause-scanned g c =
    let at = session_at c.args.self.now.pieces c.args.seat.now c.hazard_at-at.result c.args.session c.args.word c.requires.session c.hazard_at-at.ensures in
    let k = c.requires.lock in
    λ a b l. did_scan_named g.L.Law.finds g.L.Law.turns (knows c.args.seat.now) c.hazard_at-at.result c.args.session c.args.word c.args.f a b c.word_load-seen.result c.name_of-name.result (note_of c.word_load-seen.new.seat) at c.requires.last c.name_of-name.ensures c.if-seen-name.true c.word_load-seen.ensures.turns

pub returns-clause-session : goal.returns-clause-session
returns-clause-session g c =
    let at = session_at c.args.self.now.pieces c.args.seat.now c.hazard_at-at.result c.args.session c.args.word c.requires.session c.hazard_at-at.ensures in
    let k = c.requires.lock in
    let d = did_scan_clear g.L.Law.finds g.L.Law.turns (knows c.args.seat.now) c.hazard_at-at.result c.args.session c.args.word c.args.f k.0 k.1.0 c.word_load-seen.result c.name_of-name.result (note_of c.word_load-seen.new.seat) at k.1.1 c.requires.last c.name_of-name.ensures c.if-seen-name.false c.word_load-seen.ensures.turns in
    stays c.args.self.now.pieces c.args.seat.now c.word_load-seen.new.seat c.requires.session c.word_load-seen.ensures.seat c.word_load-seen.ensures.pieces _ d.4.2 (with_lock_same (note_of c.args.seat.now) d.4.0 c.args.f (Locks k.0 d.1))

pub returns-clause-scanned : goal.returns-clause-scanned
returns-clause-scanned g c =
    let at = session_at c.args.self.now.pieces c.args.seat.now c.hazard_at-at.result c.args.session c.args.word c.requires.session c.hazard_at-at.ensures in
    λ a b l. did_scan_clear g.L.Law.finds g.L.Law.turns (knows c.args.seat.now) c.hazard_at-at.result c.args.session c.args.word c.args.f a b c.word_load-seen.result c.name_of-name.result (note_of c.word_load-seen.new.seat) at l c.requires.last c.name_of-name.ensures c.if-seen-name.false c.word_load-seen.ensures.turns
