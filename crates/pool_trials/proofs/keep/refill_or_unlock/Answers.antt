use Rattle.pool_trials.proofs.Keeping.{same_seat}
use Rattle.pool_trials.proofs.keep.refill_or_unlock.Goals as goal

pub returns-clause-number : goal.returns-clause-number
returns-clause-number c =
    same_seat c.args.seat.now c.scan_all.new.seat c.unlock_own.new.seat c.scan_all.ensures.number c.unlock_own.ensures.number

pub returns-then-scan_all-clause-number : goal.returns-then-scan_all-clause-number
returns-then-scan_all-clause-number c =
    same_seat c.args.seat.now c.free_own.new.seat c.fill_own.new.seat (same_seat c.args.seat.now c.scan_all.new.seat c.free_own.new.seat c.scan_all.ensures.number c.free_own.ensures.number) c.fill_own.ensures.number
