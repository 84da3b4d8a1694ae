use Rattle.latch_table.specs.Tables.{knows, note_of}
use Rattle.hazard_law.specs.declared.known.Mark.TheVariants.{Names}
use Rattle.hazard_table.proofs.Staying.{hazard_in, own_at, stays, with_mark_same}
use Rattle.hazard_table.proofs.Turning.{did_publish, may_publish}
use Rattle.hazard_table.proofs.pool.Pool.publish.Goals as goal

pub word_store-requires-clause-word : goal.word_store-requires-clause-word
word_store-requires-clause-word g c =
    hazard_in c.args.self.now.pieces _ c.hazard_at-at.result c.number.result c.args.word c.args.self.now.sized (rw c.number.ensures c.requires.session.range) c.requires.word c.hazard_at-at.ensures

pub word_store-requires-clause-turns : goal.word_store-requires-clause-turns
word_store-requires-clause-turns g c =
    let at = own_at c.args.self.now.pieces c.args.seat.now c.hazard_at-at.result c.number.result c.args.word c.requires.session c.number.ensures c.hazard_at-at.ensures in
    may_publish g.L.Law.finds g.L.Law.turns (knows c.args.seat.now) c.hazard_at-at.result c.name_of.result c.args.word c.args.f c.requires.word at c.name_of.ensures c.requires.beside

pub returns-clause-session : goal.returns-clause-session
returns-clause-session g c =
    let at = own_at c.args.self.now.pieces c.args.seat.now c.hazard_at-at.result c.number.result c.args.word c.requires.session c.number.ensures c.hazard_at-at.ensures in
    let d = did_publish g.L.Law.finds g.L.Law.turns (knows c.args.seat.now) c.hazard_at-at.result c.word_store.result c.name_of.result c.args.word c.args.f (note_of c.word_store.new.seat) c.requires.word at c.name_of.ensures c.word_store.ensures.turns in
    stays c.args.self.now.pieces c.args.seat.now c.word_store.new.seat c.requires.session c.word_store.ensures.seat c.word_store.ensures.pieces _ d.1.2 (with_mark_same (note_of c.args.seat.now) d.1.0 c.args.word (Names c.args.f))

pub returns-clause-published : goal.returns-clause-published
returns-clause-published g c =
    let at = own_at c.args.self.now.pieces c.args.seat.now c.hazard_at-at.result c.number.result c.args.word c.requires.session c.number.ensures c.hazard_at-at.ensures in
    did_publish g.L.Law.finds g.L.Law.turns (knows c.args.seat.now) c.hazard_at-at.result c.word_store.result c.name_of.result c.args.word c.args.f (note_of c.word_store.new.seat) c.requires.word at c.name_of.ensures c.word_store.ensures.turns
