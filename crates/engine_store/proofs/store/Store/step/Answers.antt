use Rattle.std.proofs.Common.{◌∙◌, ap, length, List}
use Rattle.call_steps.specs.State.{State}
use Rattle.engine_store.specs.Calls.{MayReplySo}
use Rattle.engine_store.proofs.GoingOut.{stepped_out, keeps_out, told_out}
use Rattle.engine_store.proofs.store.Store.step.Goals as goal

pub returns-clause-stepped : goal.returns-clause-stepped
returns-clause-stepped g c = stepped_out g.D.Disk c.step_through-told.new.self c.make_way.new.self c.make_way.ensures c.args.self.now c.args.disk.now c.step_through-told.new.disk c.args.step c.step_through-told.result c.step_through-told.ensures.stepped

pub returns-clause-told : goal.returns-clause-told
returns-clause-told g c = told_out g.D.Disk c.step_through-told.new.self c.make_way.new.self c.make_way.ensures c.args.self.now c.args.disk.now c.step_through-told.new.disk (λ basis start. MayReplySo g.D.Disk basis start c.step_through-told.new.disk c.step_through-told.result) c.step_through-told.ensures.told

pub returns-clause-keeps : goal.returns-clause-keeps
returns-clause-keeps g c = keeps_out g.D.Disk c.step_through-told.new.self c.make_way.new.self c.make_way.ensures c.args.self.now c.args.disk.now c.step_through-told.new.disk c.step_through-told.ensures.keeps

pub returns-clause-sessions : goal.returns-clause-sessions
returns-clause-sessions g c = ap (λ (l : List State). length l) c.make_way.ensures.sessions ∙ c.step_through-told.ensures.sessions
