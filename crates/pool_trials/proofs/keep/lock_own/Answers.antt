use Rattle.std.proofs.Common.{arith}
use Rattle.pool_law.proofs.Keepers.{may_write_own}
use Rattle.latch_table.specs.Tables.{knows}
use Rattle.hazard_law.specs.Safety.{inner}
use Rattle.pool_trials.proofs.Keeping.{few, locks_own, own_frame}
use Rattle.pool_trials.proofs.keep.lock_own.Goals as goal

pub lock-requires-clause-session : goal.lock-requires-clause-session
lock-requires-clause-session c =
    c.requires.keeper.1.session

pub lock-requires-clause-frame : goal.lock-requires-clause-frame
lock-requires-clause-frame c =
    let a = few c.args.pool.now.pieces c.args.seat.now c.requires.keeper.0 c.requires.keeper.1 in let b = c.number-own.ensures in let d = c.requires.keeper.1.frames in omega arith

pub lock-requires-clause-beside : goal.lock-requires-clause-beside
lock-requires-clause-beside c =
    may_write_own 2 (inner (knows c.args.seat.now)) c.number-own.result _ (own_frame c.args.pool.now.pieces c.args.seat.now c.requires.keeper.0 c.requires.keeper.1 c.number-own.result c.number-own.ensures)

pub returns-clause-locked : goal.returns-clause-locked
returns-clause-locked c =
    locks_own c.args.pool.now.pieces c.args.seat.now c.requires.keeper.0 c.requires.keeper.1 c.lock.new.seat c.lock.ensures.session c.lock.ensures.pieces c.number-own.result c.args.g c.lock.result c.number-own.ensures c.lock.ensures.locked
