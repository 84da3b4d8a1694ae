use Rattle.std.proofs.Common.{subst, sym}
use Rattle.wt_calls.specs.declared.call.Call.{Call}
use Rattle.script_run.specs.Runs.{IsAnswerTo}
use Rattle.script_run.proofs.Replying.{session-answered, system-answered}
use Rattle.script_run.proofs.one_line.answer_to.Goals as goal

pub returns-in-Session-clause-replied : goal.returns-in-Session-clause-replied
returns-in-Session-clause-replied g c = λ honest first s w at same.
    subst (λ (m : Call). IsAnswerTo g.D.Disk first s c.call_beside.new.self c.call_beside.new.disk m w c.call_beside.result) (sym c.in-Session.is)
    (session-answered g.D.Disk first s w c.args.store.now c.call_beside.new.self c.args.disk.now c.call_beside.new.disk at c.args.evicting.now same c.in-Session.session c.in-Session.call c.call_beside.result (c.call_beside.ensures.called honest first w s.first s.made at.held))

pub returns-in-System-clause-replied : goal.returns-in-System-clause-replied
returns-in-System-clause-replied g c = λ honest first s w at same.
    let disk = c.args.disk.now in
    subst (λ (m : Call). IsAnswerTo g.D.Disk first s c.call_system.new.self disk m w c.call_system.result) (sym c.in-System.is)
    (system-answered g.D.Disk first s w c.args.store.now c.call_system.new.self disk disk at c.in-System.number c.in-System.call c.call_system.result (c.call_system.ensures.called disk honest first w s.first s.made at.held))

pub returns-in-System-clause-told : goal.returns-in-System-clause-told
returns-in-System-clause-told g c = c.call_system.ensures.told c.args.disk.now

pub returns-in-System-clause-keeps : goal.returns-in-System-clause-keeps
returns-in-System-clause-keeps g c = c.call_system.ensures.keeps c.args.disk.now
