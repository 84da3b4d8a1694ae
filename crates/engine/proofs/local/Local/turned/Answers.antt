use Rattle.std.proofs.Common.{sym, subst}
use Rattle.engine_world.specs.Stands.{Engine}
use Rattle.engine.specs.Turning.{IsTurned}
use Rattle.engine.proofs.local.Local.turned.Goals as goal

pub returns-clause-none : goal.returns-clause-none
returns-clause-none c = λ is seen x. c.turned.ensures.none is seen (subst (λ (e : Engine). IsTurned e c.args.session c.args.evicting.now seen) (sym c.self.view_is) x)
