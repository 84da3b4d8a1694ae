use Rattle.std.proofs.Common.{◌+◌, ◌/◌, ◌%◌, ℕ, sym, subst, arith}
use Rattle.pool_law.proofs.Keepers.{may_read}
use Rattle.latch_table.specs.Tables.{knows, note_of}
use Rattle.hazard_law.specs.declared.known.Lock.TheVariants.{Locks}
use Rattle.hazard_law.specs.Safety.{HasLock, inner}
use Rattle.hazard_law.specs.Words.{locked}
use Rattle.hazard_table.specs.Leaves.{word_of_session}
use Rattle.pool_trials.proofs.Keeping.{clear_has, clear_keeper, named_has, named_keeper}
use Rattle.pool_trials.proofs.keep.scan_place.Goals as goal

pub scan-requires-clause-lock : goal.scan-requires-clause-lock
scan-requires-clause-lock c =
    let l : HasLock (note_of c.args.seat.now) c.number-own.result (Locks c.args.g c.args.place) = subst (λ (j : ℕ). HasLock (note_of c.args.seat.now) j (Locks c.args.g c.args.place)) (sym c.number-own.ensures) c.requires.locked.0 in
    (c.args.g, (c.args.place, l))

pub scan-requires-clause-beside : goal.scan-requires-clause-beside
scan-requires-clause-beside c =
    may_read 2 (inner (knows c.args.seat.now)) (word_of_session (knows c.args.seat.now) (c.args.place / 5) (c.args.place % 5))

pub returns-in-Clear-clause-keeper : goal.returns-in-Clear-clause-keeper
returns-in-Clear-clause-keeper c =
    let l : HasLock (note_of c.args.seat.now) c.number-own.result (Locks c.args.g c.args.place) = subst (λ (j : ℕ). HasLock (note_of c.args.seat.now) j (Locks c.args.g c.args.place)) (sym c.number-own.ensures) c.requires.locked.0 in
    clear_keeper c.args.pool.now.pieces c.args.seat.now (locked c.args.g) c.requires.keeper c.scan.new.seat c.in-Clear.ensures.session c.in-Clear.ensures.pieces (c.args.place / 5) (c.args.place % 5) c.number-own.result c.args.g c.args.place (c.in-Clear.ensures.scanned c.args.g c.args.place l)

pub returns-in-Clear-clause-locked : goal.returns-in-Clear-clause-locked
returns-in-Clear-clause-locked c =
    let l : HasLock (note_of c.args.seat.now) c.number-own.result (Locks c.args.g c.args.place) = subst (λ (j : ℕ). HasLock (note_of c.args.seat.now) j (Locks c.args.g c.args.place)) (sym c.number-own.ensures) c.requires.locked.0 in
    (c.args.place + 1, clear_has c.args.pool.now.pieces c.args.seat.now (locked c.args.g) c.requires.keeper c.scan.new.seat c.in-Clear.ensures.session c.in-Clear.ensures.pieces (c.args.place / 5) (c.args.place % 5) c.number-own.result c.args.g c.args.place c.number-own.ensures (omega arith) (c.in-Clear.ensures.scanned c.args.g c.args.place l))

pub returns-in-Clear-clause-clear : goal.returns-in-Clear-clause-clear
returns-in-Clear-clause-clear c =
    let l : HasLock (note_of c.args.seat.now) c.number-own.result (Locks c.args.g c.args.place) = subst (λ (j : ℕ). HasLock (note_of c.args.seat.now) j (Locks c.args.g c.args.place)) (sym c.number-own.ensures) c.requires.locked.0 in
    λ _. clear_has c.args.pool.now.pieces c.args.seat.now (locked c.args.g) c.requires.keeper c.scan.new.seat c.in-Clear.ensures.session c.in-Clear.ensures.pieces (c.args.place / 5) (c.args.place % 5) c.number-own.result c.args.g c.args.place c.number-own.ensures (omega arith) (c.in-Clear.ensures.scanned c.args.g c.args.place l)

pub returns-in-Pinned-clause-keeper : goal.returns-in-Pinned-clause-keeper
returns-in-Pinned-clause-keeper c =
    let l : HasLock (note_of c.args.seat.now) c.number-own.result (Locks c.args.g c.args.place) = subst (λ (j : ℕ). HasLock (note_of c.args.seat.now) j (Locks c.args.g c.args.place)) (sym c.number-own.ensures) c.requires.locked.0 in
    named_keeper c.args.pool.now.pieces c.args.seat.now (locked c.args.g) c.requires.keeper c.scan.new.seat c.in-Pinned.ensures.session c.in-Pinned.ensures.pieces (c.args.place / 5) (c.args.place % 5) c.number-own.result c.args.g c.args.place c.in-Pinned.field-0 (c.in-Pinned.ensures.scanned c.args.g c.args.place l)

pub returns-in-Pinned-clause-locked : goal.returns-in-Pinned-clause-locked
returns-in-Pinned-clause-locked c =
    let l : HasLock (note_of c.args.seat.now) c.number-own.result (Locks c.args.g c.args.place) = subst (λ (j : ℕ). HasLock (note_of c.args.seat.now) j (Locks c.args.g c.args.place)) (sym c.number-own.ensures) c.requires.locked.0 in
    (c.args.place, named_has c.args.pool.now.pieces c.args.seat.now (locked c.args.g) c.requires.keeper c.scan.new.seat c.in-Pinned.ensures.session c.in-Pinned.ensures.pieces (c.args.place / 5) (c.args.place % 5) c.number-own.result c.args.g c.args.place c.in-Pinned.field-0 c.requires.locked (c.in-Pinned.ensures.scanned c.args.g c.args.place l))
