use Rattle.std.proofs.Common.{◌∙◌, sym, subst}
use Rattle.engine.specs.declared.step.Step.{Step}
use Rattle.engine.specs.Runs.{StepFits}
use Rattle.engine_store.specs.Beside.{SteppedBeside}
use Rattle.engine_store.specs.Calls.{Holding}
use Rattle.engine_store.proofs.BesideSteps.{never_turned, none_turned, stepped_beside, turned_with}
use Rattle.engine_store.proofs.Stepping.{goes_with}
use Rattle.engine_store.proofs.store.Store.step_beside.Goals as goal

pub go_beside-requires : goal.go_beside-requires
go_beside-requires g c = subst (λ (step : Step). StepFits c.args.self.now.engine step) (goes_with c.args.step c.in-Some.session (sym c.session_of.ensures ∙ c.in-Some.is)) c.requires

pub returns-then-not-are_any-clause-stepped : goal.returns-then-not-are_any-clause-stepped
returns-then-not-are_any-clause-stepped g c = stepped_beside g.D.Disk c.args.self.now c.step.new.self c.args.disk.now c.step.new.disk c.args.evicting.now c.args.step c.step.result c.step.ensures.stepped

pub returns-then-not-are_any-clause-turns : goal.returns-then-not-are_any-clause-turns
returns-then-not-are_any-clause-turns g c = never_turned c.args.evicting.now (c.are_any.ensures c.if-not-are_any.true) c.args.self.now.engine c.step.new.self.engine c.args.step c.step.result

pub returns-in-Some-clause-stepped : goal.returns-in-Some-clause-stepped
returns-in-Some-clause-stepped g c =
    subst (λ (step : Step). Holding g.D.Disk c.args.self.now c.args.disk.now (λ start w first made. SteppedBeside g.D.Disk start w first made c.args.self.now c.go_beside.new.self c.args.disk.now c.go_beside.new.disk c.args.evicting.now step c.go_beside.result))
    (sym (goes_with c.args.step c.in-Some.session (sym c.session_of.ensures ∙ c.in-Some.is))) c.go_beside.ensures.stepped

pub returns-in-Some-clause-turns : goal.returns-in-Some-clause-turns
returns-in-Some-clause-turns g c =
    turned_with c.args.evicting.now c.args.self.now.engine c.go_beside.new.self.engine c.args.step c.go_beside.result c.in-Some.session (goes_with c.args.step c.in-Some.session (sym c.session_of.ensures ∙ c.in-Some.is)) c.go_beside.ensures.turns

pub returns-in-None-clause-stepped : goal.returns-in-None-clause-stepped
returns-in-None-clause-stepped g c = stepped_beside g.D.Disk c.args.self.now c.step_through.new.self c.args.disk.now c.step_through.new.disk c.args.evicting.now c.args.step c.step_through.result c.step_through.ensures.stepped

pub returns-in-None-clause-turns : goal.returns-in-None-clause-turns
returns-in-None-clause-turns g c = none_turned c.args.evicting.now c.args.self.now.engine c.step_through.new.self.engine c.args.step c.step_through.result (sym c.session_of.ensures ∙ c.in-None.is)
