use Rattle.pool_trials.proofs.threads.turn_other.Goals as goal

pub returns-then-page-guess-clause-keeper : goal.returns-then-page-guess-clause-keeper
returns-then-page-guess-clause-keeper c = (c.requires.keeper.0, c.in-Page.ensures.keeper c.requires.keeper.0 c.requires.keeper.1)

pub returns-else-page-guess-clause-keeper : goal.returns-else-page-guess-clause-keeper
returns-else-page-guess-clause-keeper c = (c.requires.keeper.0, c.in-Page.ensures.keeper c.requires.keeper.0 c.requires.keeper.1)

pub returns-in-Again-clause-keeper : goal.returns-in-Again-clause-keeper
returns-in-Again-clause-keeper c = (c.requires.keeper.0, c.in-Again.ensures.keeper c.requires.keeper.0 c.requires.keeper.1)

pub returns-in-Busy-clause-keeper : goal.returns-in-Busy-clause-keeper
returns-in-Busy-clause-keeper c = (c.requires.keeper.0, c.in-Busy.ensures.keeper c.requires.keeper.0 c.requires.keeper.1)
