use Rattle.pool_trials.proofs.Keeping.{same_seat}
use Rattle.pool_trials.proofs.keep.visit.Goals as goal

pub read_pinned-requires-clause-keeper : goal.read_pinned-requires-clause-keeper
read_pinned-requires-clause-keeper c =
    (c.requires.keeper.0, c.in-Pinned.ensures.keeper c.requires.keeper.0 c.requires.keeper.1)

pub returns-in-Pinned-clause-keeper : goal.returns-in-Pinned-clause-keeper
returns-in-Pinned-clause-keeper c =
    λ word k. c.read_pinned.ensures.keeper word (c.in-Pinned.ensures.keeper word k)

pub returns-in-Pinned-clause-number : goal.returns-in-Pinned-clause-number
returns-in-Pinned-clause-number c =
    same_seat c.args.seat.now c.pin_other.new.seat c.read_pinned.new.seat c.in-Pinned.ensures.number c.read_pinned.ensures.number
