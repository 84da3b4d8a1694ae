use Rattle.std.proofs.Common.{◌∙◌, sym}
use Rattle.call_steps.specs.declared.hub.Hub.{Hub}
use Rattle.engine.specs.Directories.{HubGoesOn}
use Rattle.engine.proofs.Directories.{goes-then}
use Rattle.engine_store.specs.Fetches.{CauseSince}
use Rattle.engine_store.proofs.Stepping.{goes_with, on_ok, readies}
use Rattle.engine_store.proofs.store.Store.make_ready.Goals as goal

pub returns-in-Some-waits-clause-steps : goal.returns-in-Some-waits-clause-steps
returns-in-Some-waits-clause-steps g c = λ h w now reached.
    readies (CauseSince g.D.Disk c.args.disk.now c.let_in.new.disk c.args.self.now.frames w now) c.let_in.new.self.engine c.let_in.new.self.ground.kept now c.args.step.now c.in-Some.session c.let_in.result
    (goes_with c.args.step.now c.in-Some.session (sym c.session_of.ensures ∙ c.in-Some.is)) (c.let_in.ensures.steps h w now reached)

pub returns-in-Some-waits-clause-then : goal.returns-in-Some-waits-clause-then
returns-in-Some-waits-clause-then g c =
    on_ok c.let_in.result ((next : Hub) → HubGoesOn c.let_in.new.self.engine.hub next → HubGoesOn c.args.self.now.engine.hub next)
    (λ next on. goes-then c.args.self.now.engine.hub c.let_in.new.self.engine.hub next c.let_in.ensures.goes on)
