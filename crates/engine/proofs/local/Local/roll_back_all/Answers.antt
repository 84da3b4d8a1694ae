use Rattle.std.proofs.Common.{subst}
use Rattle.engine_world.specs.Stands.{Engine}
use Rattle.engine.specs.Directories.{HubGoesOn}
use Rattle.engine.proofs.Directories.{goes-keeps}
use Rattle.engine.specs.Told.{KeepOwn}
use Rattle.engine.proofs.local.Local.roll_back_all.Goals as goal

pub returns-clause-goes : goal.returns-clause-goes
returns-clause-goes c = subst (λ (e : Engine). HubGoesOn e.hub c.roll_back_all.new.self.hub) c.self.view_is (goes-keeps c.self.inside.parts c.roll_back_all.new.self c.self.invariant c.roll_back_all.ensures.kept)

pub returns-clause-own : goal.returns-clause-own
returns-clause-own c = subst (λ (e : Engine). KeepOwn e c.roll_back_all.new.self) c.self.view_is c.roll_back_all.ensures.kept.own
