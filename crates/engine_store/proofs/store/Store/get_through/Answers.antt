use Rattle.wt_calls.specs.Calls.{session_call_in}
use Rattle.wt_calls.specs.declared.call.Call.TheVariants as calls
use Rattle.wt_calls.specs.declared.session_call.SessionCall.TheVariants as session_call
use Rattle.ckpt_step.proofs.Ordinary.{fits_are}
use Rattle.engine_store.proofs.Calling.{Ended, calls_held, calls_keep, calls_told}
use Rattle.engine_store.proofs.store.Store.get_through.Given as given
use Rattle.engine_store.proofs.store.Store.get_through.Goals as goal

ended : (g : given.Over) → (c : goal.After-end g) → Ended g.D.Disk c.args.self.now c.get-called.new.self c.end.new.self c.get-called.result c.args.disk.now c.end.new.disk c.args.session (session_call_in (session_call.Get c.args.table.now c.args.key.now)) c.end.result
ended g c = record {
  calls = λ h w there fault backed by. c.end.ensures.calls h w (session_call_in (session_call.Get c.args.table.now c.args.key.now)) there fault backed by;
  begun = c.get-called.ensures.answer;
  goes = c.get-called.ensures.goes;
  on = c.end.ensures.goes;
  ground = c.end.ensures.ground;
  running = c.end.ensures.running;
  frames = c.end.ensures.frames;
  looked = c.end.ensures.looked;
  home = c.end.ensures.home;
  told = c.end.ensures.told;
  own = c.get-called.ensures.own;
  tells = c.get-called.ensures.tells;
  there = c.requires;
  built = c.actors.ensures.built;
  ordinary = (fits_are c.args.self.now.engine).1 (calls.Session c.args.session (session_call.Get c.args.table.now c.args.key.now)) c.requires;
}

pub returns-clause-called : goal.returns-clause-called
returns-clause-called g c = calls_held g.D.Disk c.args.self.now c.get-called.new.self c.end.new.self c.get-called.result c.args.disk.now c.end.new.disk c.args.session (session_call_in (session_call.Get c.args.table.now c.args.key.now)) c.end.result (ended g c)

pub returns-clause-told : goal.returns-clause-told
returns-clause-told g c = calls_told g.D.Disk c.args.self.now c.get-called.new.self c.end.new.self c.get-called.result c.args.disk.now c.end.new.disk c.args.session (session_call_in (session_call.Get c.args.table.now c.args.key.now)) c.end.result (ended g c)

pub returns-clause-keeps : goal.returns-clause-keeps
returns-clause-keeps g c = calls_keep g.D.Disk c.args.self.now c.get-called.new.self c.end.new.self c.get-called.result c.args.disk.now c.end.new.disk c.args.session (session_call_in (session_call.Get c.args.table.now c.args.key.now)) c.end.result (ended g c)
