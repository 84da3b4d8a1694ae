use Rattle.std.proofs.Common.{◌∙◌, subst}
use Rattle.hazard_law.specs.Safety.{inner}
use Rattle.latch_table.specs.Tables.{knows, note_of}
use Rattle.hazard_table.proofs.Staying.{state_in, stays, with_note_same}
use Rattle.hazard_table.proofs.Turning.{did_look_again, did_look_empty, may_look}
use Rattle.hazard_table.proofs.pool.Pool.look.Goals as goal

pub word_load-seen-requires-clause-word : goal.word_load-seen-requires-clause-word
word_load-seen-requires-clause-word g c =
    state_in c.args.self.now.pieces _ c.args.f c.args.self.now.sized c.requires.frame

pub word_load-seen-requires-clause-turns : goal.word_load-seen-requires-clause-turns
word_load-seen-requires-clause-turns g c =
    may_look g.L.Law.finds g.L.Law.turns (knows c.args.seat.now) c.args.f c.requires.beside

pub returns-then-seen-expected-clause-session : goal.returns-then-seen-expected-clause-session
returns-then-seen-expected-clause-session g c =
    let d = did_look_empty g.L.Law.finds g.L.Law.turns (knows c.args.seat.now) c.args.f c.word_load-seen.result c.empty_at-expected.result c.args.g (note_of c.word_load-seen.new.seat) c.empty_at-expected.ensures c.if-seen-expected.true c.word_load-seen.ensures.turns in
    stays c.args.self.now.pieces c.args.seat.now c.word_load-seen.new.seat c.requires.session c.word_load-seen.ensures.seat c.word_load-seen.ensures.pieces _ d.2 (with_note_same (note_of c.args.seat.now) d.0)

pub returns-then-seen-expected-clause-looked : goal.returns-then-seen-expected-clause-looked
returns-then-seen-expected-clause-looked g c =
    did_look_empty g.L.Law.finds g.L.Law.turns (knows c.args.seat.now) c.args.f c.word_load-seen.result c.empty_at-expected.result c.args.g (note_of c.word_load-seen.new.seat) c.empty_at-expected.ensures c.if-seen-expected.true c.word_load-seen.ensures.turns

pub returns-clause-session : goal.returns-clause-session
returns-clause-session g c =
    let d = did_look_again g.L.Law.finds g.L.Law.turns (knows c.args.seat.now) c.args.f c.word_load-seen.result c.empty_at-expected.result c.args.g (note_of c.word_load-seen.new.seat) c.empty_at-expected.ensures c.if-seen-expected.false c.word_load-seen.ensures.turns in
    stays c.args.self.now.pieces c.args.seat.now c.word_load-seen.new.seat c.requires.session c.word_load-seen.ensures.seat c.word_load-seen.ensures.pieces _ d.1.2 (with_note_same (note_of c.args.seat.now) d.1.0)

pub returns-clause-looked : goal.returns-clause-looked
returns-clause-looked g c =
    did_look_again g.L.Law.finds g.L.Law.turns (knows c.args.seat.now) c.args.f c.word_load-seen.result c.empty_at-expected.result c.args.g (note_of c.word_load-seen.new.seat) c.empty_at-expected.ensures c.if-seen-expected.false c.word_load-seen.ensures.turns

pub returns-then-seen-expected-clause-finds : goal.returns-then-seen-expected-clause-finds
returns-then-seen-expected-clause-finds g c =
    subst (λ r. g.L.Law.finds (inner (knows c.args.seat.now)) c.args.f r) (c.if-seen-expected.true ∙ c.empty_at-expected.ensures) c.word_load-seen.ensures.finds.beside

pub returns-clause-finds : goal.returns-clause-finds
returns-clause-finds g c =
    c.word_load-seen.ensures.finds.beside
