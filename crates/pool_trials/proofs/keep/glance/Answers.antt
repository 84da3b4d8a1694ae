use Rattle.pool_trials.proofs.Keeping.{same_seat}
use Rattle.pool_trials.proofs.keep.glance.Goals as goal

pub let_go-requires : goal.let_go-requires
let_go-requires c =
    record { keeper = (c.requires.keeper.0, c.in-Pinned.ensures.keeper c.requires.keeper.0 c.requires.keeper.1) }

pub returns-in-Pinned-clause-keeper : goal.returns-in-Pinned-clause-keeper
returns-in-Pinned-clause-keeper c =
    λ word k. c.let_go.ensures.keeper word (c.in-Pinned.ensures.keeper word k)

pub returns-in-Pinned-clause-number : goal.returns-in-Pinned-clause-number
returns-in-Pinned-clause-number c =
    same_seat c.args.seat.now c.pin_other.new.seat c.let_go.new.seat c.in-Pinned.ensures.number c.let_go.ensures.number
