use Rattle.std.proofs.Common.{refl}
use Rattle.engine_store.proofs.EvictTurns.{never_but}
use Rattle.engine_store.proofs.evict_steps.frame_if_locked.Goals as goal

pub returns-in-None-clause-none : goal.returns-in-None-clause-none
returns-in-None-clause-none c = λ is locked. never_but c.args.evicting.now c.args.number c.args.target (c.in-None.ensures.none refl) locked
