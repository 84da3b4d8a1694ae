use Rattle.std.proofs.Common.{◌∙◌, refl, arith}
use Rattle.call_steps.specs.declared.reply.Reply.TheVariants as reply
use Rattle.engine.specs.declared.step.Actor.TheVariants as actor
use Rattle.engine.specs.declared.step.Step.{Step}
use Rattle.engine.specs.declared.step.Step.TheVariants.{Go}
use Rattle.engine.specs.Directories.{HubGoesOn}
use Rattle.engine.proofs.Directories.{goes-then}
use Rattle.tree_open.proofs.Steps.{looked_none}
use Rattle.engine_store.specs.declared.store.Store.{Store}
use Rattle.engine_store.specs.Fetches.{CauseSince}
use Rattle.engine_store.specs.Keeping.{with_kept}
use Rattle.engine_store.proofs.Bases.{basis_goes, basis_here}
use Rattle.engine_store.proofs.BesideSteps.{stepped_beside}
use Rattle.engine_store.proofs.Stepping.{StepsOn, led_out, led_step, step_held, step_keeps}
use Rattle.engine_store.proofs.Telling.{keep_told, reply_told}
use Rattle.engine_store.proofs.store.Store.go_free.Given as given
use Rattle.engine_store.proofs.store.Store.go_free.Goals as goal

-- ---- the call is ready

abbrev ready : (g : given.Over) → goal.After-go_once g → Store
ready g c = record c.args.self.now { engine = c.go_once.new.self }

abbrev made : (g : given.Over) → goal.After-go_once g → Step
made g c = Go (actor.Session c.args.session)

goes : (g : given.Over) → (c : goal.After-go_once g) → StepsOn g.D.Disk c.args.self.now (ready g c) c.args.disk.now c.args.disk.now (made g c) c.go_once.result
goes g c = record {
  led = λ h w reached.
      led_step (CauseSince g.D.Disk c.args.disk.now c.args.disk.now c.args.self.now.frames w) c.args.self.now c.go_once.new.self c.args.self.now.ground.kept c.args.self.now.ground.kept w (made g c) c.go_once.result reached.stands c.actors.ensures.built c.requires (c.go_once.ensures.step (with_kept c.args.self.now.ground.kept w) reached.stands);
  hub = c.go_once.ensures.goes;
  ground = refl;
  running = refl;
  frames = refl;
  looked = looked_none g.D.Disk c.args.disk.now;
  home = refl;
}

pub returns-in-None-clause-stepped : goal.returns-in-None-clause-stepped
returns-in-None-clause-stepped g c = λ evicting.
    stepped_beside g.D.Disk c.args.self.now (ready g c) c.args.disk.now c.args.disk.now evicting (made g c) c.go_once.result (step_held g.D.Disk c.args.self.now (ready g c) c.args.disk.now c.args.disk.now (made g c) c.go_once.result (goes g c))

pub returns-in-None-clause-told : goal.returns-in-None-clause-told
returns-in-None-clause-told g c = λ basis start le on told. (
  reply_told g.D.Disk basis start c.args.disk.now c.args.self.now.engine (made g c) c.go_once.result c.go_once.ensures.tells told,
  keep_told g.D.Disk basis start c.args.disk.now c.args.self.now.engine c.go_once.new.self c.go_once.ensures.own told,
  basis_here g.D.Disk basis c.args.self.now.engine c.go_once.new.self c.args.disk.now c.go_once.ensures.goes on,
)

pub returns-in-None-clause-keeps : goal.returns-in-None-clause-keeps
returns-in-None-clause-keeps g c = step_keeps g.D.Disk c.args.self.now (ready g c) c.args.disk.now c.args.disk.now (made g c) c.go_once.result (goes g c)

pub returns-in-None-clause-fault : goal.returns-in-None-clause-fault
returns-in-None-clause-fault g c = c.go_once.ensures.goes.fault

-- ---- its leaf comes

abbrev come : (g : given.Over) → goal.After-go_once-in-Ok g → Store
come g c = record c.let_in.new.self { engine = c.go_once-in-Ok.new.self }

hub : (g : given.Over) → (c : goal.After-go_once-in-Ok g) → HubGoesOn c.args.self.now.engine.hub c.go_once-in-Ok.new.self.hub
hub g c = goes-then c.args.self.now.engine.hub c.let_in.new.self.engine.hub c.go_once-in-Ok.new.self.hub c.let_in.ensures.goes c.go_once-in-Ok.ensures.goes

comes : (g : given.Over) → (c : goal.After-go_once-in-Ok g) → StepsOn g.D.Disk c.args.self.now (come g c) c.args.disk.now c.let_in.new.disk (Go (actor.Session c.args.session)) c.go_once-in-Ok.result
comes g c = record {
  led = λ h w reached.
      led_step (CauseSince g.D.Disk c.args.disk.now c.let_in.new.disk c.args.self.now.frames w) c.args.self.now c.go_once-in-Ok.new.self c.args.self.now.ground.kept c.let_in.new.self.ground.kept w (Go (actor.Session c.args.session)) c.go_once-in-Ok.result reached.stands c.actors.ensures.built c.requires
      (c.go_once-in-Ok.ensures.step (with_kept c.let_in.new.self.ground.kept w) (c.in-Ok.ensures.steps h w w reached));
  hub = hub g c;
  ground = c.let_in.ensures.ground;
  running = c.let_in.ensures.running;
  frames = c.let_in.ensures.frames;
  looked = c.let_in.ensures.looked;
  home = c.let_in.ensures.home;
}

pub go_once-requires-in-Ok-clause-open : goal.go_once-requires-in-Ok-clause-open
go_once-requires-in-Ok-clause-open g c = omega (arith, c.requires, c.let_in.ensures.sessions)

pub returns-in-Ok-clause-stepped : goal.returns-in-Ok-clause-stepped
returns-in-Ok-clause-stepped g c = λ evicting.
    stepped_beside g.D.Disk c.args.self.now (come g c) c.args.disk.now c.let_in.new.disk evicting (Go (actor.Session c.args.session)) c.go_once-in-Ok.result
    (step_held g.D.Disk c.args.self.now (come g c) c.args.disk.now c.let_in.new.disk (Go (actor.Session c.args.session)) c.go_once-in-Ok.result (comes g c))

pub returns-in-Ok-clause-told : goal.returns-in-Ok-clause-told
returns-in-Ok-clause-told g c = λ basis start le on told.
    let disk = c.let_in.new.disk in
    let mid = c.let_in.new.self.engine in
    let kept = c.let_in.ensures.told basis start le on told in (
      reply_told g.D.Disk basis start disk mid (Go (actor.Session c.args.session)) c.go_once-in-Ok.result c.go_once-in-Ok.ensures.tells kept,
      keep_told g.D.Disk basis start disk mid c.go_once-in-Ok.new.self c.go_once-in-Ok.ensures.own kept,
      basis_goes g.D.Disk basis c.args.self.now.engine c.go_once-in-Ok.new.self c.args.disk.now disk c.let_in.ensures.looked (hub g c) on,
    )

pub returns-in-Ok-clause-keeps : goal.returns-in-Ok-clause-keeps
returns-in-Ok-clause-keeps g c = step_keeps g.D.Disk c.args.self.now (come g c) c.args.disk.now c.let_in.new.disk (Go (actor.Session c.args.session)) c.go_once-in-Ok.result (comes g c)

pub returns-in-Ok-clause-fewer : goal.returns-in-Ok-clause-fewer
returns-in-Ok-clause-fewer g c = λ none. let less = c.go_once-in-Ok.ensures.fewer none in omega (arith, less, c.let_in.ensures.turns)

pub returns-in-Ok-clause-fault : goal.returns-in-Ok-clause-fault
returns-in-Ok-clause-fault g c = c.go_once-in-Ok.ensures.goes.fault ∙ c.let_in.ensures.goes.fault

pub returns-in-Ok-clause-sessions : goal.returns-in-Ok-clause-sessions
returns-in-Ok-clause-sessions g c = c.go_once-in-Ok.ensures.sessions ∙ c.let_in.ensures.sessions

-- ---- or it is kept out

pub returns-in-Err-clause-stepped : goal.returns-in-Err-clause-stepped
returns-in-Err-clause-stepped g c = λ evicting.
    stepped_beside g.D.Disk c.args.self.now c.let_in.new.self c.args.disk.now c.let_in.new.disk evicting (Go (actor.Session c.args.session)) reply.More
    (step_held g.D.Disk c.args.self.now c.let_in.new.self c.args.disk.now c.let_in.new.disk (Go (actor.Session c.args.session)) reply.More (record {
      led = λ h w reached.
          let out = c.in-Err.ensures.steps h w w reached in
          led_out (CauseSince g.D.Disk c.args.disk.now c.let_in.new.disk c.args.self.now.frames w) c.args.self.now c.let_in.new.self.engine c.args.self.now.ground.kept c.let_in.new.self.ground.kept w (Go (actor.Session c.args.session)) c.in-Err._refusal reached.stands c.actors.ensures.built
          (c.args.session, refl, out.0, out.1, out.2, out.3);
      hub = c.let_in.ensures.goes;
      ground = c.let_in.ensures.ground;
      running = c.let_in.ensures.running;
      frames = c.let_in.ensures.frames;
      looked = c.let_in.ensures.looked;
      home = c.let_in.ensures.home;
    }))

pub returns-in-Err-clause-told : goal.returns-in-Err-clause-told
returns-in-Err-clause-told g c = λ basis start le on told. (
  λ answer is. absurd (cc),
  c.let_in.ensures.told basis start le on told,
  basis_goes g.D.Disk basis c.args.self.now.engine c.let_in.new.self.engine c.args.disk.now c.let_in.new.disk c.let_in.ensures.looked c.let_in.ensures.goes on,
)

pub returns-in-Err-clause-keeps : goal.returns-in-Err-clause-keeps
returns-in-Err-clause-keeps g c = step_keeps g.D.Disk c.args.self.now c.let_in.new.self c.args.disk.now c.let_in.new.disk (Go (actor.Session c.args.session)) reply.More (record {
  led = λ h w reached.
      let out = c.in-Err.ensures.steps h w w reached in
      led_out (CauseSince g.D.Disk c.args.disk.now c.let_in.new.disk c.args.self.now.frames w) c.args.self.now c.let_in.new.self.engine c.args.self.now.ground.kept c.let_in.new.self.ground.kept w (Go (actor.Session c.args.session)) c.in-Err._refusal reached.stands c.actors.ensures.built
      (c.args.session, refl, out.0, out.1, out.2, out.3);
  hub = c.let_in.ensures.goes;
  ground = c.let_in.ensures.ground;
  running = c.let_in.ensures.running;
  frames = c.let_in.ensures.frames;
  looked = c.let_in.ensures.looked;
  home = c.let_in.ensures.home;
})

pub returns-in-Err-clause-fewer : goal.returns-in-Err-clause-fewer
returns-in-Err-clause-fewer g c = λ none. c.in-Err.ensures.fewer

pub returns-in-Err-clause-fault : goal.returns-in-Err-clause-fault
returns-in-Err-clause-fault g c = c.let_in.ensures.goes.fault
