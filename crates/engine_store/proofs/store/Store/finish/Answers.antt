use Rattle.std.proofs.Common.{◌∙◌, ap, length, List}
use Rattle.call_steps.specs.State.{State}
use Rattle.engine_store.specs.Calls.{MayAnswerSo}
use Rattle.engine_store.proofs.GoingOut.{finished_out, keeps_out, told_out}
use Rattle.engine_store.proofs.store.Store.finish.Goals as goal

pub returns-clause-finished : goal.returns-clause-finished
returns-clause-finished g c = finished_out g.D.Disk c.finish_through-told.new.self c.make_way.new.self c.make_way.ensures c.args.self.now c.args.disk.now c.finish_through-told.new.disk c.args.actor c.finish_through-told.result c.finish_through-told.ensures.finished

pub returns-clause-told : goal.returns-clause-told
returns-clause-told g c = told_out g.D.Disk c.finish_through-told.new.self c.make_way.new.self c.make_way.ensures c.args.self.now c.args.disk.now c.finish_through-told.new.disk (λ basis start. MayAnswerSo g.D.Disk basis start c.finish_through-told.new.disk c.finish_through-told.result) c.finish_through-told.ensures.told

pub returns-clause-keeps : goal.returns-clause-keeps
returns-clause-keeps g c = keeps_out g.D.Disk c.finish_through-told.new.self c.make_way.new.self c.make_way.ensures c.args.self.now c.args.disk.now c.finish_through-told.new.disk c.finish_through-told.ensures.keeps

pub returns-clause-sessions : goal.returns-clause-sessions
returns-clause-sessions g c = ap (λ (l : List State). length l) c.make_way.ensures.sessions ∙ c.finish_through-told.ensures.sessions
