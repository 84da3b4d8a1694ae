use Rattle.std.proofs.Common.{◌≡◌, false, subst}
use Rattle.std.specs.Prelude.{IsTrue}
use Rattle.engine_world.specs.GivingWay.{IsIdle}
use Rattle.engine_world.specs.Stands.{Engine}
use Rattle.engine.proofs.local.Local.is_idle.Goals as goal

pub returns-clause-yes : goal.returns-clause-yes
returns-clause-yes c = subst (λ (e : Engine). IsTrue c.is_idle.result → IsIdle e) c.self.view_is c.is_idle.ensures.yes

pub returns-clause-no : goal.returns-clause-no
returns-clause-no c = subst (λ (e : Engine). c.is_idle.result ≡ false → IsIdle e → ⊥) c.self.view_is c.is_idle.ensures.no
