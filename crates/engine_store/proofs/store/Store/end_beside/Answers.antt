use Rattle.std.proofs.Common.{◌∙◌, arith}
use Rattle.engine_store.proofs.BesideSteps.{gone_ends, gone_keeps, gone_more, gone_none, gone_told}
use Rattle.engine_store.proofs.store.Store.end_beside.Goals as goal

pub steps-init : goal.steps-init
steps-init g c = gone_none g.D.Disk c.args.disk.now c.args.self.now c.args.evicting.now c.args.session

pub steps-preserved : goal.steps-preserved
steps-preserved g c =
    let e = c.go_beside.ensures in
    gone_more g.D.Disk c.args.disk.now c.steps.disk c.go_beside.new.disk c.args.self.now c.steps.self c.go_beside.new.self c.args.evicting.now c.args.session c.go_beside.result c.steps.invariant
    (record { stepped = e.stepped; tells = e.told; keeps = e.keeps; fault = e.fault; sessions = e.sessions }) (λ answer is. c.in_default.not-Answer answer is)

pub steps-smaller : goal.steps-smaller
steps-smaller g c = c.go_beside.ensures.fewer (λ answer is. c.in_default.not-Answer answer is)

pub go_beside-requires : goal.go_beside-requires
go_beside-requires g c = omega (arith, c.requires, c.steps.invariant.sessions)

pub returns-in-Answer-clause-finished : goal.returns-in-Answer-clause-finished
returns-in-Answer-clause-finished g c =
    let e = c.go_beside.ensures in
    gone_ends g.D.Disk c.args.disk.now c.steps.disk c.go_beside.new.disk c.args.self.now c.steps.self c.go_beside.new.self c.args.evicting.now c.args.session c.go_beside.result c.steps.invariant
    (record { stepped = e.stepped; tells = e.told; keeps = e.keeps; fault = e.fault; sessions = e.sessions }) c.in-Answer.answer c.in-Answer.is

pub returns-in-Answer-clause-told : goal.returns-in-Answer-clause-told
returns-in-Answer-clause-told g c =
    let e = c.go_beside.ensures in
    gone_told g.D.Disk c.args.disk.now c.steps.disk c.go_beside.new.disk c.args.self.now c.steps.self c.go_beside.new.self c.args.evicting.now c.args.session c.go_beside.result c.steps.invariant
    (record { stepped = e.stepped; tells = e.told; keeps = e.keeps; fault = e.fault; sessions = e.sessions }) c.in-Answer.answer c.in-Answer.is

pub returns-in-Answer-clause-keeps : goal.returns-in-Answer-clause-keeps
returns-in-Answer-clause-keeps g c =
    let e = c.go_beside.ensures in
    gone_keeps g.D.Disk c.args.disk.now c.steps.disk c.go_beside.new.disk c.args.self.now c.steps.self c.go_beside.new.self c.args.evicting.now c.args.session c.go_beside.result c.steps.invariant
    (record { stepped = e.stepped; tells = e.told; keeps = e.keeps; fault = e.fault; sessions = e.sessions })

pub returns-in-Answer-clause-fault : goal.returns-in-Answer-clause-fault
returns-in-Answer-clause-fault g c = c.go_beside.ensures.fault ∙ c.steps.invariant.fault

pub returns-in-Answer-clause-sessions : goal.returns-in-Answer-clause-sessions
returns-in-Answer-clause-sessions g c = c.go_beside.ensures.sessions ∙ c.steps.invariant.sessions
