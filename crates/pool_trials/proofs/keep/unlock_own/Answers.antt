use Rattle.std.proofs.Common.{ℕ, sym, subst, arith}
use Rattle.pool_law.proofs.Keepers.{may_go_own}
use Rattle.latch_table.specs.Tables.{knows, note_of}
use Rattle.hazard_law.specs.declared.known.Lock.TheVariants.{Locks}
use Rattle.hazard_law.specs.Safety.{HasLock, inner}
use Rattle.hazard_law.specs.Words.{filled, locked}
use Rattle.pool_trials.proofs.Keeping.{few, opened_keeper, own_frame}
use Rattle.pool_trials.proofs.keep.unlock_own.Goals as goal

pub unlock-requires-clause-lock : goal.unlock-requires-clause-lock
unlock-requires-clause-lock c =
    let l = c.requires.locked in
    (l.0, subst (λ (j : ℕ). HasLock (note_of c.args.seat.now) j (Locks c.args.g l.0)) (sym c.number-own.ensures) l.1.0)

pub unlock-requires-clause-frame : goal.unlock-requires-clause-frame
unlock-requires-clause-frame c =
    let a = few c.args.pool.now.pieces c.args.seat.now (locked c.args.g) c.requires.keeper in let b = c.number-own.ensures in let d = c.requires.keeper.frames in omega arith

pub unlock-requires-clause-beside : goal.unlock-requires-clause-beside
unlock-requires-clause-beside c =
    may_go_own 2 (inner (knows c.args.seat.now)) c.number-own.result (locked c.args.g) (filled c.args.g) (own_frame c.args.pool.now.pieces c.args.seat.now (locked c.args.g) c.requires.keeper c.number-own.result c.number-own.ensures)

pub returns-clause-keeper : goal.returns-clause-keeper
returns-clause-keeper c =
    opened_keeper c.args.pool.now.pieces c.args.seat.now (locked c.args.g) c.requires.keeper c.unlock.new.seat c.unlock.ensures.session c.unlock.ensures.pieces c.number-own.result (locked c.args.g) (filled c.args.g) c.number-own.ensures c.unlock.ensures.unlocked
