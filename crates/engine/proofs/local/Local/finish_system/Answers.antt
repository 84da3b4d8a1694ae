use Rattle.std.proofs.Common.{subst}
use Rattle.engine_world.specs.Stands.{Engine}
use Rattle.engine.specs.Told.{KeepOwn}
use Rattle.engine.proofs.Owning.{own-with}
use Rattle.engine.proofs.local.Local.finish_system.Goals as goal

pub returns-clause-own : goal.returns-clause-own
returns-clause-own c = subst (λ (e : Engine). KeepOwn e c.make_whole.new.self) c.self.view_is (own-with c.self.inside.parts c.make_whole.new.self c.make_whole.ensures.sessions)
