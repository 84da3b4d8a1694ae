use Rattle.std.proofs.Common.{◌*◌, ℕ, suc, sym, ap, subst, arith}
use Rattle.pool_law.proofs.Keepers.{may_go_own}
use Rattle.latch_table.specs.Tables.{knows, note_of}
use Rattle.hazard_law.specs.declared.known.Lock.TheVariants.{Locks}
use Rattle.hazard_law.specs.Safety.{HasLock, inner}
use Rattle.hazard_law.specs.Words.{empty, locked}
use Rattle.pool_trials.proofs.Keeping.{few, opened_keeper, own_frame, seats_of}
use Rattle.pool_trials.proofs.keep.free_own.Goals as goal

pub free-requires-clause-scanned : goal.free-requires-clause-scanned
free-requires-clause-scanned c =
    subst (λ (n : ℕ). HasLock (note_of c.args.seat.now) c.number-own.result (Locks c.args.g n)) (sym (ap (λ (n : ℕ). 5 * n) (seats_of c.args.pool.now.pieces c.args.seat.now (locked c.args.g) c.requires.keeper))) (subst (λ (j : ℕ). HasLock (note_of c.args.seat.now) j (Locks c.args.g 10)) (sym c.number-own.ensures) c.requires.scanned.0)

pub free-requires-clause-frame : goal.free-requires-clause-frame
free-requires-clause-frame c =
    let a = few c.args.pool.now.pieces c.args.seat.now (locked c.args.g) c.requires.keeper in let b = c.number-own.ensures in let d = c.requires.keeper.frames in omega arith

pub free-requires-clause-beside : goal.free-requires-clause-beside
free-requires-clause-beside c =
    may_go_own 2 (inner (knows c.args.seat.now)) c.number-own.result (locked c.args.g) (empty (suc c.args.g)) (own_frame c.args.pool.now.pieces c.args.seat.now (locked c.args.g) c.requires.keeper c.number-own.result c.number-own.ensures)

pub returns-clause-keeper : goal.returns-clause-keeper
returns-clause-keeper c =
    opened_keeper c.args.pool.now.pieces c.args.seat.now (locked c.args.g) c.requires.keeper c.free.new.seat c.free.ensures.session c.free.ensures.pieces c.number-own.result (locked c.args.g) (empty (suc c.args.g)) c.number-own.ensures c.free.ensures.freed
