use Rattle.std.proofs.Common.{sym, subst}
use Rattle.engine_world.specs.Stands.{Engine, Stands}
use Rattle.engine.proofs.local.Local.horizon.Goals as goal

pub returns-clause-past : goal.returns-clause-past
returns-clause-past c = λ w st none table key. c.horizon.ensures.past w (subst (λ (x : Engine). Stands x w) (sym c.self.view_is) st) none table key
