use Rattle.std.proofs.Common.{sym, subst}
use Rattle.engine_world.specs.Stands.{Engine, Stands}
use Rattle.engine.specs.declared.step.Step.TheVariants.{Go}
use Rattle.engine.specs.Directories.{HubGoesOn}
use Rattle.engine.specs.Runs.{MayStep}
use Rattle.engine.proofs.Directories.{goes-keeps}
use Rattle.engine.specs.Told.{KeepOwn, TellsFrom, answer_in, kept_by}
use Rattle.engine.proofs.Owning.{own-with}
use Rattle.engine.proofs.local.Local.go.Goals as goal

pub returns-in-Session-clause-step : goal.returns-in-Session-clause-step
returns-in-Session-clause-step c = λ w st. let r = c.go.ensures.step w (subst (λ (e : Engine). Stands e w) (sym c.self.view_is) st) in
    (r.0, subst (λ who. MayStep w (Go who) c.go.result r.0) (sym c.in-Session.is) r.1, r.2)

pub returns-in-System-clause-step : goal.returns-in-System-clause-step
returns-in-System-clause-step c = λ w st. let r = c.make.ensures.steps w (subst (λ (e : Engine). Stands e w) (sym c.self.view_is) st) in
    (r.0, subst (λ who. MayStep w (Go who) c.make.result r.0) (sym c.in-System.is) r.1, r.2)

pub returns-in-Session-clause-goes : goal.returns-in-Session-clause-goes
returns-in-Session-clause-goes c = subst (λ (e : Engine). HubGoesOn e.hub c.go.new.self.hub) c.self.view_is (goes-keeps c.self.inside.parts c.go.new.self c.self.invariant c.go.ensures.kept)

pub returns-in-System-clause-goes : goal.returns-in-System-clause-goes
returns-in-System-clause-goes c = subst (λ (e : Engine). HubGoesOn e.hub c.make.new.self.hub) c.self.view_is c.make.ensures.goes

pub returns-in-Session-clause-own : goal.returns-in-Session-clause-own
returns-in-Session-clause-own c = subst (λ (e : Engine). KeepOwn e c.go.new.self) c.self.view_is c.go.ensures.kept.own

pub returns-in-System-clause-own : goal.returns-in-System-clause-own
returns-in-System-clause-own c = subst (λ (e : Engine). KeepOwn e c.make.new.self) c.self.view_is (own-with c.self.inside.parts c.make.new.self c.make.ensures.sessions)

pub returns-in-Session-clause-tells : goal.returns-in-Session-clause-tells
returns-in-Session-clause-tells c = subst (λ who. TellsFrom (kept_by c.args.self.now (Go who)) c.go.result) (sym c.in-Session.is)
    (subst (λ (e : Engine). TellsFrom (answer_in e c.in-Session.session) c.go.result) c.self.view_is c.go.ensures.tells)

pub returns-in-System-clause-tells : goal.returns-in-System-clause-tells
returns-in-System-clause-tells c = subst (λ who. TellsFrom (kept_by c.args.self.now (Go who)) c.make.result) (sym c.in-System.is) c.make.ensures.tells
