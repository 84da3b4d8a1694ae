use Rattle.pool_trials.proofs.Keeping.{same_seat}
use Rattle.pool_trials.proofs.keep.read_pinned.Goals as goal

pub let_go-requires : goal.let_go-requires
let_go-requires c =
    record { keeper = (c.requires.keeper.0, c.touch-page.ensures.keeper c.requires.keeper.0 c.requires.keeper.1) }

pub returns-in-Some-clause-keeper : goal.returns-in-Some-clause-keeper
returns-in-Some-clause-keeper c =
    λ word k. c.let_go.ensures.keeper word (c.touch-page.ensures.keeper word k)

pub returns-in-Some-clause-number : goal.returns-in-Some-clause-number
returns-in-Some-clause-number c =
    same_seat c.args.seat.now c.touch-page.new.seat c.let_go.new.seat c.touch-page.ensures.number c.let_go.ensures.number

pub returns-in-None-clause-keeper : goal.returns-in-None-clause-keeper
returns-in-None-clause-keeper c =
    λ word k. c.let_go.ensures.keeper word (c.touch-page.ensures.keeper word k)

pub returns-in-None-clause-number : goal.returns-in-None-clause-number
returns-in-None-clause-number c =
    same_seat c.args.seat.now c.touch-page.new.seat c.let_go.new.seat c.touch-page.ensures.number c.let_go.ensures.number
