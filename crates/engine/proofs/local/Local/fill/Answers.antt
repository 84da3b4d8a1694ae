use Rattle.std.proofs.Common.{◌≡◌, ℕ, subst}
use Rattle.std.specs.Prelude.{None, OnOk, Some}
use Rattle.engine_world.specs.Stands.{Engine}
use Rattle.engine.specs.Directories.{HubGoesOn}
use Rattle.engine.specs.Waits.{turns_in, waits_in}
use Rattle.engine.proofs.Directories.{goes-filled}
use Rattle.engine.proofs.LeavesCome.{fill-ready, fill-turns}
use Rattle.engine.specs.Told.{KeepOwn}
use Rattle.engine.proofs.Owning.{own-with}
use Rattle.engine.proofs.local.Local.fill.Goals as goal

pub returns-clause-goes : goal.returns-clause-goes
returns-clause-goes c = subst (λ (e : Engine). HubGoesOn e.hub c.fill.new.self.hub) c.self.view_is
    (goes-filled c.self.inside.parts c.fill.new.self c.args.leaf c.args.page c.fill.result c.self.invariant c.fill.ensures.run c.fill.ensures.fault c.fill.ensures.tables c.fill.ensures.filled c.fill.ensures.kept)

pub returns-clause-ready : goal.returns-clause-ready
returns-clause-ready c = subst (λ (e : Engine). (session : ℕ) → waits_in e session ≡ Some c.args.leaf → OnOk c.fill.result (waits_in c.fill.new.self session ≡ None)) c.self.view_is
    (λ session. fill-ready c.self.inside.parts c.fill.new.self session c.args.leaf c.args.page c.fill.ensures.sessions c.fill.result c.fill.ensures.filled)

pub returns-clause-turns : goal.returns-clause-turns
returns-clause-turns c = subst (λ (e : Engine). (session : ℕ) → OnOk c.fill.result (turns_in c.fill.new.self session ≡ turns_in e session)) c.self.view_is
    (λ session. fill-turns c.self.inside.parts c.fill.new.self session c.args.leaf c.args.page c.fill.ensures.sessions c.turns_stay.ensures c.fill.result c.fill.ensures.filled)

pub returns-clause-own : goal.returns-clause-own
returns-clause-own c = subst (λ (e : Engine). KeepOwn e c.fill.new.self) c.self.view_is (own-with c.self.inside.parts c.fill.new.self c.fill.ensures.sessions)
