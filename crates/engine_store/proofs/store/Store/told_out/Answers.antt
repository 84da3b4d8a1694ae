use Rattle.std.proofs.Common.{refl}
use Rattle.engine_store.proofs.store.Store.told_out.Goals as goal

pub returns-in-None-clause-out : goal.returns-in-None-clause-out
returns-in-None-clause-out c = λ w st. c.in-None.ensures.none refl w st
