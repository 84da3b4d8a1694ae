use Rattle.std.proofs.Common.{ap, subst}
use Rattle.call_steps.specs.declared.hub.Hub.{Hub}
use Rattle.engine_world.specs.Stands.{Engine}
use Rattle.engine.specs.Directories.{HubGoesOn}
use Rattle.engine.proofs.Directories.{goes-with}
use Rattle.engine.specs.Told.{KeepsOut}
use Rattle.engine.proofs.local.Local.keep_out.Goals as goal

pub returns-clause-goes : goal.returns-clause-goes
returns-clause-goes c = subst (λ (e : Engine). HubGoesOn e.hub c.keep_out.new.self.hub) c.self.view_is
    (goes-with c.self.inside.parts c.keep_out.new.self.hub c.self.invariant (ap (λ (h : Hub). h.txns.run) c.keep_out.ensures.hub) (ap (λ (h : Hub). h.fault) c.keep_out.ensures.hub) (ap (λ (h : Hub). h.tables) c.keep_out.ensures.hub) (ap (λ (h : Hub). h.dir) c.keep_out.ensures.hub))

pub returns-clause-own : goal.returns-clause-own
returns-clause-own c = subst (λ (e : Engine). KeepsOut c.args.session c.args.refusal e c.keep_out.new.self) c.self.view_is c.keep_out.ensures.own
