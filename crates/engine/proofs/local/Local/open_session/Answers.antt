use Rattle.std.proofs.Common.{subst}
use Rattle.engine_world.specs.Stands.{Engine}
use Rattle.engine.specs.Directories.{HubGoesOn}
use Rattle.engine.proofs.Directories.{goes-with}
use Rattle.engine.specs.Told.{KeepOwn}
use Rattle.engine.proofs.local.Local.open_session.Goals as goal

pub returns-clause-goes : goal.returns-clause-goes
returns-clause-goes c = subst (λ (e : Engine). HubGoesOn e.hub c.open_session.new.self.hub) c.self.view_is (goes-with c.self.inside.parts c.open_session.new.self.hub c.self.invariant c.open_session.ensures.run c.open_session.ensures.fault c.open_session.ensures.tables c.open_session.ensures.dir)

pub returns-clause-own : goal.returns-clause-own
returns-clause-own c = subst (λ (e : Engine). KeepOwn e c.open_session.new.self) c.self.view_is c.open_session.ensures.own
