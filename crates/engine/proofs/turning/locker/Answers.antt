use Rattle.engine.proofs.Lockers.{none-all}
use Rattle.engine.proofs.turning.locker.Goals as goal

pub returns-clause-none : goal.returns-clause-none
returns-clause-none c = λ is number other locks. none-all c.args.evicting.now c.args.but c.args.frame c.args.word c.loop-at.at c.loop-at.invariant c.loop-at-test.false number other locks
