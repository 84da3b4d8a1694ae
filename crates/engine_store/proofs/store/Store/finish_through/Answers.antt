use Rattle.std.proofs.Common.{sym, subst}
use Rattle.engine.specs.declared.step.Actor.{Actor}
use Rattle.engine.specs.declared.step.Actor.TheVariants as by
use Rattle.engine.specs.declared.step.Step.TheVariants as step
use Rattle.call_steps.specs.declared.reply.Reply.TheVariants as reply
use Rattle.ckpt_step.proofs.Ordinary.{engines_are}
use Rattle.engine_store.specs.Calls.{Finished}
use Rattle.engine_store.specs.Keeping.{with_kept}
use Rattle.engine_store.proofs.Bases.{basis_here}
use Rattle.engine_store.proofs.Finishing.{EndedLater, finish_held, finish_keeps, finish_told}
use Rattle.engine_store.proofs.Going.{goes_step, laid_step}
use Rattle.engine_store.proofs.OtherRecords.{other_records, step_other}
use Rattle.engine_store.proofs.SystemCalls.{event_held, event_keeps}
use Rattle.engine_store.proofs.Telling.{always_told, keep_told}
use Rattle.engine_store.proofs.store.Store.finish_through.Given as given
use Rattle.engine_store.proofs.store.Store.finish_through.Goals as goal

ended : (g : given.Over) → (c : goal.After-end g) → EndedLater g.D.Disk c.args.self.now c.resume-called.new.self c.end.new.self c.resume-called.result c.args.disk.now c.end.new.disk c.in-Session.session c.end.result
ended g c = record {
  steps = c.end.ensures.steps;
  ends = c.resume-called.ensures.ends;
  goes = c.resume-called.ensures.goes;
  on = c.end.ensures.goes;
  ground = c.end.ensures.ground;
  running = c.end.ensures.running;
  frames = c.end.ensures.frames;
  looked = c.end.ensures.looked;
  home = c.end.ensures.home;
  told = c.end.ensures.told;
  own = c.resume-called.ensures.own;
  tells = c.resume-called.ensures.tells;
  built = c.actors.ensures.built;
}

pub returns-in-Session-clause-finished : goal.returns-in-Session-clause-finished
returns-in-Session-clause-finished g c = λ h start w first made held.
    subst (λ (who : Actor). Finished g.D.Disk start w first made c.args.self.now c.end.new.self c.args.disk.now c.end.new.disk who c.end.result) (sym c.in-Session.is)
    (finish_held g.D.Disk c.args.self.now c.resume-called.new.self c.end.new.self c.resume-called.result c.args.disk.now c.end.new.disk c.in-Session.session c.end.result (ended g c) h start w first made held)

pub returns-in-Session-clause-told : goal.returns-in-Session-clause-told
returns-in-Session-clause-told g c = finish_told g.D.Disk c.args.self.now c.resume-called.new.self c.end.new.self c.resume-called.result c.args.disk.now c.end.new.disk c.in-Session.session c.end.result (ended g c)

pub returns-in-Session-clause-keeps : goal.returns-in-Session-clause-keeps
returns-in-Session-clause-keeps g c = finish_keeps g.D.Disk c.args.self.now c.resume-called.new.self c.end.new.self c.resume-called.result c.args.disk.now c.end.new.disk c.in-Session.session c.end.result (ended g c)

pub returns-in-System-clause-finished : goal.returns-in-System-clause-finished
returns-in-System-clause-finished g c = λ h start w first made held.
    let there = with_kept c.args.self.now.ground.kept w in
    let x = c.finish_system.ensures.steps there held.stands in
    subst (λ (who : Actor). Finished g.D.Disk start w first made c.args.self.now (record c.args.self.now { engine = c.finish_system.new.self }) c.args.disk.now c.args.disk.now who c.finish_system.result) (sym c.in-System.is)
    (record {
      later = other_records w.records x.0;
      ended = step_other w.records there x.0 (step.Go (by.System c.in-System.number)) (reply.Answer c.finish_system.result) x.1;
      held = event_held g.D.Disk c.args.disk.now c.args.self.now c.finish_system.new.self c.finish_system.ensures.goes start w x.0 first made x.2 (laid_step there x.0 (step.Go (by.System c.in-System.number)) (reply.Answer c.finish_system.result) x.1)
          (goes_step there x.0 (step.Go (by.System c.in-System.number)) (reply.Answer c.finish_system.result) (engines_are c.args.self.now.engine there held.stands c.actors.ensures.built) tt x.1) held;
    })

pub returns-in-System-clause-told : goal.returns-in-System-clause-told
returns-in-System-clause-told g c = λ basis start le on told. (
  always_told g.D.Disk basis start c.args.disk.now c.finish_system.result c.finish_system.ensures.tells,
  keep_told g.D.Disk basis start c.args.disk.now c.args.self.now.engine c.finish_system.new.self c.finish_system.ensures.own told,
  basis_here g.D.Disk basis c.args.self.now.engine c.finish_system.new.self c.args.disk.now c.finish_system.ensures.goes on,
)

pub returns-in-System-clause-keeps : goal.returns-in-System-clause-keeps
returns-in-System-clause-keeps g c = event_keeps g.D.Disk c.args.disk.now c.args.self.now c.finish_system.new.self c.finish_system.ensures.goes
