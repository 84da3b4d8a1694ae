use Rattle.latch_table.specs.Tables.{knows, note_of}
use Rattle.hazard_law.specs.declared.known.Lock.TheVariants.{Open}
use Rattle.hazard_table.proofs.Staying.{frame_known, state_in, stays, with_lock_same}
use Rattle.hazard_table.proofs.Turning.{did_fill, may_fill}
use Rattle.hazard_table.proofs.pool.Pool.fill.Goals as goal

pub word_store-requires-clause-word : goal.word_store-requires-clause-word
word_store-requires-clause-word g c =
    state_in c.args.self.now.pieces _ c.args.f c.args.self.now.sized c.requires.frame

pub word_store-requires-clause-turns : goal.word_store-requires-clause-turns
word_store-requires-clause-turns g c =
    may_fill g.L.Law.finds g.L.Law.turns (knows c.args.seat.now) c.args.f c.filled_at.result c.args.g (frame_known c.args.self.now.pieces c.args.seat.now c.args.f c.requires.session c.requires.frame) c.filled_at.ensures c.requires.beside

pub returns-clause-session : goal.returns-clause-session
returns-clause-session g c =
    let d = did_fill g.L.Law.finds g.L.Law.turns (knows c.args.seat.now) c.args.f c.word_store.result c.filled_at.result c.args.g (note_of c.word_store.new.seat) c.filled_at.ensures c.word_store.ensures.turns in
    stays c.args.self.now.pieces c.args.seat.now c.word_store.new.seat c.requires.session c.word_store.ensures.seat c.word_store.ensures.pieces _ d.2 (with_lock_same (note_of c.args.seat.now) d.0 c.args.f Open)

pub returns-clause-filled : goal.returns-clause-filled
returns-clause-filled g c =
    did_fill g.L.Law.finds g.L.Law.turns (knows c.args.seat.now) c.args.f c.word_store.result c.filled_at.result c.args.g (note_of c.word_store.new.seat) c.filled_at.ensures c.word_store.ensures.turns
