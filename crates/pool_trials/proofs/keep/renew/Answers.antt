use Rattle.pool_trials.proofs.Keeping.{same_seat}
use Rattle.pool_trials.proofs.keep.renew.Goals as goal

pub returns-in-Locked-clause-number : goal.returns-in-Locked-clause-number
returns-in-Locked-clause-number c =
    same_seat c.args.seat.now c.lock_own.new.seat c.refill_or_unlock.new.seat c.in-Locked.ensures.number c.refill_or_unlock.ensures.number
