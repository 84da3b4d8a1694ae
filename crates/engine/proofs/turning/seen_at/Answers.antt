use Rattle.std.proofs.Common.{refl}
use Rattle.engine.proofs.Lockers.{behind-all}
use Rattle.engine.proofs.turning.seen_at.Goals as goal

pub returns-in-None-clause-none : goal.returns-in-None-clause-none
returns-in-None-clause-none c = λ is seen sees. c.in-None.ensures.none refl sees.number (behind-all c.args.evicting.now sees.number c.args.frame c.args.word sees.locks) sees.locks
