use Rattle.std.proofs.Common.{ap, subst}
use Rattle.call_steps.specs.declared.hub.Hub.{Hub}
use Rattle.engine_world.specs.Stands.{Engine}
use Rattle.engine.specs.Directories.{HubGoesOn}
use Rattle.engine.proofs.Directories.{goes-with}
use Rattle.engine.specs.Told.{KeepOwn}
use Rattle.engine.proofs.Owning.{own-with}
use Rattle.engine.proofs.local.Local.ask.Goals as goal

pub returns-clause-goes : goal.returns-clause-goes
returns-clause-goes c = subst (λ (e : Engine). HubGoesOn e.hub c.ask.new.self.hub) c.self.view_is
    (goes-with c.self.inside.parts c.ask.new.self.hub c.self.invariant (ap (λ (h : Hub). h.txns.run) c.ask.ensures.hub) (ap (λ (h : Hub). h.fault) c.ask.ensures.hub) (ap (λ (h : Hub). h.tables) c.ask.ensures.hub) (ap (λ (h : Hub). h.dir) c.ask.ensures.hub))

pub returns-clause-own : goal.returns-clause-own
returns-clause-own c = subst (λ (e : Engine). KeepOwn e c.ask.new.self) c.self.view_is (own-with c.self.inside.parts c.ask.new.self c.ask.ensures.sessions)
