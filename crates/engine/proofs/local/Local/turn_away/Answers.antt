use Rattle.std.proofs.Common.{subst}
use Rattle.engine_world.specs.Stands.{Engine}
use Rattle.engine.specs.Directories.{HubGoesOn}
use Rattle.engine.specs.Told.{KeepOwn}
use Rattle.engine.proofs.Directories.{goes-keeps}
use Rattle.engine.proofs.local.Local.turn_away.Goals as goal

pub returns-clause-goes : goal.returns-clause-goes
returns-clause-goes c = subst (λ (e : Engine). HubGoesOn e.hub c.turn_away.new.self.hub) c.self.view_is (goes-keeps c.self.inside.parts c.turn_away.new.self c.self.invariant c.turn_away.ensures.kept)

pub returns-clause-own : goal.returns-clause-own
returns-clause-own c = subst (λ (e : Engine). KeepOwn e c.turn_away.new.self) c.self.view_is c.turn_away.ensures.kept.own
