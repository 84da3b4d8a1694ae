use Rattle.std.proofs.Common.{ℕ, sym, subst}
use Rattle.pool_law.proofs.Keepers.{may_read}
use Rattle.latch_table.specs.Tables.{knows, note_of}
use Rattle.hazard_law.specs.declared.known.Lock.TheVariants.{Locks}
use Rattle.hazard_law.specs.Safety.{HasLock, inner}
use Rattle.hazard_law.specs.Words.{locked}
use Rattle.hazard_table.specs.Leaves.{word_of_session}
use Rattle.pool_trials.proofs.Keeping.{scan_keeper}
use Rattle.pool_trials.proofs.keep.who_pins.Goals as goal

pub scan-requires-clause-lock : goal.scan-requires-clause-lock
scan-requires-clause-lock c =
    let l = c.requires.locked in
    let h : HasLock (note_of c.args.seat.now) c.number-own.result (Locks c.args.g l.0) = subst (λ (j : ℕ). HasLock (note_of c.args.seat.now) j (Locks c.args.g l.0)) (sym c.number-own.ensures) l.1.0 in
    (c.args.g, (l.0, h))

pub scan-requires-clause-beside : goal.scan-requires-clause-beside
scan-requires-clause-beside c =
    may_read 2 (inner (knows c.args.seat.now)) (word_of_session (knows c.args.seat.now) c.args.session c.args.word)

pub returns-clause-keeper : goal.returns-clause-keeper
returns-clause-keeper c =
    let l = c.requires.locked in
    let h : HasLock (note_of c.args.seat.now) c.number-own.result (Locks c.args.g l.0) = subst (λ (j : ℕ). HasLock (note_of c.args.seat.now) j (Locks c.args.g l.0)) (sym c.number-own.ensures) l.1.0 in
    (scan_keeper c.args.pool.now.pieces c.args.seat.now (locked c.args.g) c.requires.keeper c.scan.new.seat c.scan.ensures.session c.scan.ensures.pieces c.args.session c.args.word c.number-own.result c.args.g l.0 c.scan.result c.number-own.ensures l.1 (c.scan.ensures.scanned c.args.g l.0 h)).0

pub returns-clause-locked : goal.returns-clause-locked
returns-clause-locked c =
    let l = c.requires.locked in
    let h : HasLock (note_of c.args.seat.now) c.number-own.result (Locks c.args.g l.0) = subst (λ (j : ℕ). HasLock (note_of c.args.seat.now) j (Locks c.args.g l.0)) (sym c.number-own.ensures) l.1.0 in
    (scan_keeper c.args.pool.now.pieces c.args.seat.now (locked c.args.g) c.requires.keeper c.scan.new.seat c.scan.ensures.session c.scan.ensures.pieces c.args.session c.args.word c.number-own.result c.args.g l.0 c.scan.result c.number-own.ensures l.1 (c.scan.ensures.scanned c.args.g l.0 h)).1
