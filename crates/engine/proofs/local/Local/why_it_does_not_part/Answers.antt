use Rattle.std.proofs.Common.{subst}
use Rattle.engine_world.specs.Stands.{Engine}
use Rattle.engine.specs.Partings.{MayPart}
use Rattle.engine.proofs.local.Local.why_it_does_not_part.Goals as goal

pub returns-clause-none : goal.returns-clause-none
returns-clause-none c = λ is. subst (λ (e : Engine). MayPart e c.args.leaf) c.self.view_is (c.why_it_does_not_part.ensures.none is)
