use Rattle.wt_calls.specs.Calls.{session_call_in}
use Rattle.wt_calls.specs.declared.session_call.SessionCall.TheVariants as session_call
use Rattle.std.proofs.Common.{◌∙◌, ap, length, List}
use Rattle.call_steps.specs.State.{State}
use Rattle.engine_store.specs.Calls.{MayAnswerSo}
use Rattle.engine_store.proofs.GoingOut.{called_out, keeps_out, told_out}
use Rattle.engine_store.proofs.store.Store.put.Goals as goal

pub returns-clause-called : goal.returns-clause-called
returns-clause-called g c = called_out g.D.Disk c.put_through-told.new.self c.make_way.new.self c.make_way.ensures c.args.self.now c.args.disk.now c.put_through-told.new.disk c.args.session (session_call_in (session_call.Put c.args.table.now c.args.key.now c.args.value.now c.args.demand)) c.put_through-told.result c.put_through-told.ensures.called

pub returns-clause-told : goal.returns-clause-told
returns-clause-told g c = told_out g.D.Disk c.put_through-told.new.self c.make_way.new.self c.make_way.ensures c.args.self.now c.args.disk.now c.put_through-told.new.disk (λ basis start. MayAnswerSo g.D.Disk basis start c.put_through-told.new.disk c.put_through-told.result) c.put_through-told.ensures.told

pub returns-clause-keeps : goal.returns-clause-keeps
returns-clause-keeps g c = keeps_out g.D.Disk c.put_through-told.new.self c.make_way.new.self c.make_way.ensures c.args.self.now c.args.disk.now c.put_through-told.new.disk c.put_through-told.ensures.keeps

pub returns-clause-sessions : goal.returns-clause-sessions
returns-clause-sessions g c = ap (λ (l : List State). length l) c.make_way.ensures.sessions ∙ c.put_through-told.ensures.sessions
