use Rattle.latch_table.specs.Tables.{knows, note_of}
use Rattle.hazard_law.specs.declared.known.Lock.TheVariants.{Open}
use Rattle.std.proofs.Common.{ap, ◌∙◌, add-one}
use Rattle.hazard_law.specs.Words.{empty}
use Rattle.hazard_table.proofs.Staying.{state_in, stays, with_lock_same}
use Rattle.hazard_table.proofs.Turning.{did_free, may_free}
use Rattle.hazard_table.proofs.pool.Pool.free.Goals as goal

pub word_store-requires-clause-word : goal.word_store-requires-clause-word
word_store-requires-clause-word g c =
    state_in c.args.self.now.pieces _ c.args.f c.args.self.now.sized c.requires.frame

pub word_store-requires-clause-turns : goal.word_store-requires-clause-turns
word_store-requires-clause-turns g c =
    may_free g.L.Law.finds g.L.Law.turns (knows c.args.seat.now) c.args.f c.empty_at.result c.args.g (c.empty_at.ensures ∙ ap empty (add-one c.args.g)) c.requires.scanned c.requires.beside

pub returns-clause-session : goal.returns-clause-session
returns-clause-session g c =
    let d = did_free g.L.Law.finds g.L.Law.turns (knows c.args.seat.now) c.args.f c.word_store.result c.empty_at.result c.args.g (note_of c.word_store.new.seat) (c.empty_at.ensures ∙ ap empty (add-one c.args.g)) c.word_store.ensures.finds c.word_store.ensures.turns in
    stays c.args.self.now.pieces c.args.seat.now c.word_store.new.seat c.requires.session c.word_store.ensures.seat c.word_store.ensures.pieces _ d.2 (with_lock_same (note_of c.args.seat.now) d.0 c.args.f Open)

pub returns-clause-freed : goal.returns-clause-freed
returns-clause-freed g c =
    did_free g.L.Law.finds g.L.Law.turns (knows c.args.seat.now) c.args.f c.word_store.result c.empty_at.result c.args.g (note_of c.word_store.new.seat) (c.empty_at.ensures ∙ ap empty (add-one c.args.g)) c.word_store.ensures.finds c.word_store.ensures.turns
