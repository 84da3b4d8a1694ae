use Rattle.std.proofs.Common.{subst}
use Rattle.hazard_law.specs.Safety.{inner}
use Rattle.latch_table.specs.Tables.{knows, note_of}
use Rattle.hazard_law.specs.declared.known.Lock.TheVariants.{Locks}
use Rattle.hazard_table.proofs.Staying.{frame_known, state_in, stays, with_lock_same, with_note_same}
use Rattle.hazard_table.proofs.Turning.{did_lock, did_lock_again, may_lock}
use Rattle.hazard_table.proofs.pool.Pool.lock.Goals as goal

pub word_swap-requires-clause-word : goal.word_swap-requires-clause-word
word_swap-requires-clause-word g c =
    state_in c.args.self.now.pieces _ c.args.f c.args.self.now.sized c.requires.frame

pub word_swap-requires-clause-turns : goal.word_swap-requires-clause-turns
word_swap-requires-clause-turns g c =
    may_lock g.L.Law.finds g.L.Law.turns (knows c.args.seat.now) c.args.f c.filled_at-old.result c.locked_at-new.result c.args.g (frame_known c.args.self.now.pieces c.args.seat.now c.args.f c.requires.session c.requires.frame) c.filled_at-old.ensures c.locked_at-new.ensures c.requires.beside

pub returns-in-Ok-clause-session : goal.returns-in-Ok-clause-session
returns-in-Ok-clause-session g c =
    let d = did_lock g.L.Law.finds g.L.Law.turns (knows c.args.seat.now) c.args.f c.filled_at-old.result c.locked_at-new.result c.args.g (note_of c.word_swap.new.seat) c.filled_at-old.ensures c.locked_at-new.ensures c.in-Ok.ensures.turns in
    stays c.args.self.now.pieces c.args.seat.now c.word_swap.new.seat c.requires.session c.word_swap.ensures.seat c.word_swap.ensures.pieces _ d.2 (with_lock_same (note_of c.args.seat.now) d.0 c.args.f (Locks c.args.g 0))

pub returns-in-Ok-clause-locked : goal.returns-in-Ok-clause-locked
returns-in-Ok-clause-locked g c =
    did_lock g.L.Law.finds g.L.Law.turns (knows c.args.seat.now) c.args.f c.filled_at-old.result c.locked_at-new.result c.args.g (note_of c.word_swap.new.seat) c.filled_at-old.ensures c.locked_at-new.ensures c.in-Ok.ensures.turns

pub returns-in-Err-clause-session : goal.returns-in-Err-clause-session
returns-in-Err-clause-session g c =
    let d = did_lock_again g.L.Law.finds g.L.Law.turns (knows c.args.seat.now) c.args.f c.in-Err.seen c.filled_at-old.result c.args.g (note_of c.word_swap.new.seat) c.filled_at-old.ensures c.in-Err.ensures.swapped.0 c.in-Err.ensures.turns in
    stays c.args.self.now.pieces c.args.seat.now c.word_swap.new.seat c.requires.session c.word_swap.ensures.seat c.word_swap.ensures.pieces _ d.1.2 (with_note_same (note_of c.args.seat.now) d.1.0)

pub returns-in-Err-clause-locked : goal.returns-in-Err-clause-locked
returns-in-Err-clause-locked g c =
    did_lock_again g.L.Law.finds g.L.Law.turns (knows c.args.seat.now) c.args.f c.in-Err.seen c.filled_at-old.result c.args.g (note_of c.word_swap.new.seat) c.filled_at-old.ensures c.in-Err.ensures.swapped.0 c.in-Err.ensures.turns

pub returns-in-Ok-clause-finds : goal.returns-in-Ok-clause-finds
returns-in-Ok-clause-finds g c =
    subst (λ r. g.L.Law.finds (inner (knows c.args.seat.now)) c.args.f r) c.filled_at-old.ensures c.in-Ok.ensures.swapped.beside

pub returns-in-Err-clause-finds : goal.returns-in-Err-clause-finds
returns-in-Err-clause-finds g c =
    c.in-Err.ensures.swapped.1.beside
