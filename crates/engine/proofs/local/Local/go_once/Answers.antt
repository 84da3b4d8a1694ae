use Rattle.std.proofs.Common.{subst}
use Rattle.engine_world.specs.Stands.{Engine}
use Rattle.engine.specs.Directories.{HubGoesOn}
use Rattle.engine.specs.Told.{KeepOwn}
use Rattle.engine.proofs.Directories.{goes-keeps}
use Rattle.engine.proofs.local.Local.go_once.Goals as goal

pub returns-clause-goes : goal.returns-clause-goes
returns-clause-goes c = subst (λ (e : Engine). HubGoesOn e.hub c.go.new.self.hub) c.self.view_is (goes-keeps c.self.inside.parts c.go.new.self c.self.invariant c.go.ensures.kept)

pub returns-clause-own : goal.returns-clause-own
returns-clause-own c = subst (λ (e : Engine). KeepOwn e c.go.new.self) c.self.view_is c.go.ensures.kept.own
