use Rattle.std.proofs.Common.{subst}
use Rattle.call_steps.specs.declared.reply.Reply.{Reply}
use Rattle.engine.specs.declared.step.Step.TheVariants.{Start}
use Rattle.wt_calls.specs.Calls.{session_call_in}
use Rattle.wt_calls.specs.declared.call.Call.TheVariants as call
use Rattle.engine_store.specs.Calls.{Holding, Stepped}
use Rattle.engine_store.proofs.BesideCalls.{called_beside, refused_beside, whole_beside}
use Rattle.engine_store.proofs.BesideSteps.{answer_told, keeps_then, more_told}
use Rattle.engine_store.proofs.store.Store.call_beside.Goals as goal

pub returns-then-not-are_any-clause-called : goal.returns-then-not-are_any-clause-called
returns-then-not-are_any-clause-called g c = called_beside g.D.Disk c.args.self.now c.call.new.self c.args.disk.now c.call.new.disk c.args.evicting.now c.args.session (session_call_in c.args.call) c.call.result c.call.ensures.called

pub returns-in-Answer-clause-called : goal.returns-in-Answer-clause-called
returns-in-Answer-clause-called g c = refused_beside g.D.Disk c.args.self.now c.step_through.new.self c.args.disk.now c.step_through.new.disk c.args.evicting.now c.args.session c.args.call c.in-Answer.answer
    (subst (λ (t : Reply). Holding g.D.Disk c.args.self.now c.args.disk.now (λ start w first made. Stepped g.D.Disk start w first made c.args.self.now c.step_through.new.self c.args.disk.now c.step_through.new.disk (Start (call.Session c.args.session c.args.call)) t)) c.in-Answer.is c.step_through.ensures.stepped)

pub returns-in-Answer-clause-told : goal.returns-in-Answer-clause-told
returns-in-Answer-clause-told g c = answer_told g.D.Disk c.args.self.now c.step_through.new.self c.args.disk.now c.step_through.new.disk c.step_through.result c.in-Answer.answer c.in-Answer.is c.step_through.ensures.told

pub returns-in_default-clause-called : goal.returns-in_default-clause-called
returns-in_default-clause-called g c =
    let looked = c.step_through.ensures.keeps.looked in
    whole_beside g.D.Disk c.args.self.now c.step_through.new.self c.end_beside.new.self c.args.disk.now c.step_through.new.disk c.end_beside.new.disk c.args.evicting.now c.args.session c.args.call c.end_beside.result c.step_through.result
    c.steps_reach.ensures c.kept_out_reaches.ensures c.requires (λ answer is. c.in_default.not-Answer answer is) looked.same looked.count c.step_through.ensures.keeps.frames c.end_beside.ensures.fault c.step_through.ensures.stepped c.end_beside.ensures.finished

pub returns-in_default-clause-told : goal.returns-in_default-clause-told
returns-in_default-clause-told g c = more_told g.D.Disk c.args.self.now c.step_through.new.self c.end_beside.new.self c.args.disk.now c.step_through.new.disk c.end_beside.new.disk c.end_beside.result _ c.step_through.ensures.keeps c.step_through.ensures.told c.end_beside.ensures.told

pub returns-in_default-clause-keeps : goal.returns-in_default-clause-keeps
returns-in_default-clause-keeps g c = keeps_then g.D.Disk c.args.self.now c.step_through.new.self c.end_beside.new.self c.args.disk.now c.step_through.new.disk c.end_beside.new.disk c.step_through.ensures.keeps c.end_beside.ensures.keeps
