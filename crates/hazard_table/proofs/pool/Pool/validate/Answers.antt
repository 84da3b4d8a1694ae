use Rattle.std.proofs.Common.{◌∙◌, subst}
use Rattle.hazard_law.specs.Safety.{inner}
use Rattle.latch_table.specs.Tables.{knows, note_of}
use Rattle.hazard_law.specs.declared.known.Mark.TheVariants.{Pins}
use Rattle.hazard_table.proofs.Staying.{frame_known, state_in, stays, validated_stays, with_mark_same}
use Rattle.hazard_table.proofs.Turning.{did_validate_again, did_validate_pinned, may_validate}
use Rattle.hazard_table.proofs.pool.Pool.validate.Goals as goal

pub word_load-seen-requires-clause-word : goal.word_load-seen-requires-clause-word
word_load-seen-requires-clause-word g c =
    state_in c.args.self.now.pieces _ c.args.f c.args.self.now.sized c.requires.frame

pub word_load-seen-requires-clause-turns : goal.word_load-seen-requires-clause-turns
word_load-seen-requires-clause-turns g c =
    may_validate g.L.Law.finds g.L.Law.turns (knows c.args.seat.now) c.args.f c.args.word (frame_known c.args.self.now.pieces c.args.seat.now c.args.f c.requires.session c.requires.frame) c.requires.named c.requires.last c.requires.beside

pub returns-then-seen-expected-clause-session : goal.returns-then-seen-expected-clause-session
returns-then-seen-expected-clause-session g c =
    let d = did_validate_pinned g.L.Law.finds g.L.Law.turns (knows c.args.seat.now) c.args.f c.args.word c.word_load-seen.result c.filled_at-expected.result c.args.g (note_of c.word_load-seen.new.seat) c.requires.last c.filled_at-expected.ensures c.if-seen-expected.true c.word_load-seen.ensures.turns in
    stays c.args.self.now.pieces c.args.seat.now c.word_load-seen.new.seat c.requires.session c.word_load-seen.ensures.seat c.word_load-seen.ensures.pieces _ d.2 (with_mark_same (note_of c.args.seat.now) d.0 c.args.word (Pins c.args.f c.args.g))

pub returns-then-seen-expected-clause-validated : goal.returns-then-seen-expected-clause-validated
returns-then-seen-expected-clause-validated g c =
    did_validate_pinned g.L.Law.finds g.L.Law.turns (knows c.args.seat.now) c.args.f c.args.word c.word_load-seen.result c.filled_at-expected.result c.args.g (note_of c.word_load-seen.new.seat) c.requires.last c.filled_at-expected.ensures c.if-seen-expected.true c.word_load-seen.ensures.turns

pub returns-clause-session : goal.returns-clause-session
returns-clause-session g c =
    let d = did_validate_again g.L.Law.finds g.L.Law.turns (knows c.args.seat.now) c.args.f c.args.word c.word_load-seen.result c.filled_at-expected.result c.args.g (note_of c.word_load-seen.new.seat) c.requires.last c.filled_at-expected.ensures c.if-seen-expected.false c.word_load-seen.ensures.turns in
    validated_stays c.args.self.now.pieces c.args.seat.now c.word_load-seen.new.seat g.L.Law.turns c.args.word c.args.f c.args.g c.word_load-seen.result c.requires.session c.word_load-seen.ensures.seat c.word_load-seen.ensures.pieces d

pub returns-clause-validated : goal.returns-clause-validated
returns-clause-validated g c =
    did_validate_again g.L.Law.finds g.L.Law.turns (knows c.args.seat.now) c.args.f c.args.word c.word_load-seen.result c.filled_at-expected.result c.args.g (note_of c.word_load-seen.new.seat) c.requires.last c.filled_at-expected.ensures c.if-seen-expected.false c.word_load-seen.ensures.turns

pub returns-then-seen-expected-clause-finds : goal.returns-then-seen-expected-clause-finds
returns-then-seen-expected-clause-finds g c =
    subst (λ r. g.L.Law.finds (inner (knows c.args.seat.now)) c.args.f r) (c.if-seen-expected.true ∙ c.filled_at-expected.ensures) c.word_load-seen.ensures.finds.beside

pub returns-clause-finds : goal.returns-clause-finds
returns-clause-finds g c =
    c.word_load-seen.ensures.finds.beside
