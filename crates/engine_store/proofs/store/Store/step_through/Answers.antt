use Rattle.call_steps.specs.declared.reply.Reply.TheVariants as reply
use Rattle.engine_store.specs.declared.store.Store.{Store}
use Rattle.engine_store.specs.Fetches.{CauseSince}
use Rattle.engine_store.specs.Keeping.{with_kept}
use Rattle.engine_store.proofs.Bases.{basis_goes}
use Rattle.engine_store.proofs.Stepping.{StepsOn, led_out, led_step, step_held, step_keeps}
use Rattle.engine_store.proofs.Telling.{keep_told, reply_told}
use Rattle.engine_store.proofs.store.Store.step_through.Given as given
use Rattle.engine_store.proofs.store.Store.step_through.Goals as goal

abbrev later : (g : given.Over) → goal.After-step g → Store
later g c = record c.make_ready.new.self { engine = c.step.new.self }

made : (g : given.Over) → (c : goal.After-step g) → StepsOn g.D.Disk c.args.self.now (later g c) c.args.disk.now c.make_ready.new.disk c.args.step c.step.result
made g c = record {
  led = λ h w reached.
      led_step (CauseSince g.D.Disk c.args.disk.now c.make_ready.new.disk c.args.self.now.frames w) c.args.self.now c.step.new.self c.args.self.now.ground.kept c.make_ready.new.self.ground.kept w c.args.step c.step.result reached.stands c.actors.ensures.built c.requires (c.step.ensures.step (with_kept c.make_ready.new.self.ground.kept w) (c.in-Ok.ensures.steps h w w reached));
  hub = c.in-Ok.ensures.then c.step.new.self.hub c.step.ensures.goes;
  ground = c.make_ready.ensures.ground;
  running = c.make_ready.ensures.running;
  frames = c.make_ready.ensures.frames;
  looked = c.make_ready.ensures.looked;
  home = c.make_ready.ensures.home;
}

pub returns-in-Ok-clause-stepped : goal.returns-in-Ok-clause-stepped
returns-in-Ok-clause-stepped g c = step_held g.D.Disk c.args.self.now (later g c) c.args.disk.now c.make_ready.new.disk c.args.step c.step.result (made g c)

pub returns-in-Ok-clause-told : goal.returns-in-Ok-clause-told
returns-in-Ok-clause-told g c = λ basis start le on told.
    let disk = c.make_ready.new.disk in
    let mid = c.make_ready.new.self.engine in
    let kept = c.make_ready.ensures.told basis start le on told in (
      reply_told g.D.Disk basis start disk mid c.args.step c.step.result c.step.ensures.tells kept,
      keep_told g.D.Disk basis start disk mid c.step.new.self c.step.ensures.own kept,
      basis_goes g.D.Disk basis c.args.self.now.engine c.step.new.self c.args.disk.now disk c.make_ready.ensures.looked (c.in-Ok.ensures.then c.step.new.self.hub c.step.ensures.goes) on,
    )

pub returns-in-Ok-clause-keeps : goal.returns-in-Ok-clause-keeps
returns-in-Ok-clause-keeps g c = step_keeps g.D.Disk c.args.self.now (later g c) c.args.disk.now c.make_ready.new.disk c.args.step c.step.result (made g c)

-- ---- the call is kept out

pub returns-in-Err-clause-stepped : goal.returns-in-Err-clause-stepped
returns-in-Err-clause-stepped g c = step_held g.D.Disk c.args.self.now c.make_ready.new.self c.args.disk.now c.make_ready.new.disk c.args.step reply.More
    (record {
      led = λ h w reached. led_out (CauseSince g.D.Disk c.args.disk.now c.make_ready.new.disk c.args.self.now.frames w) c.args.self.now c.make_ready.new.self.engine c.args.self.now.ground.kept c.make_ready.new.self.ground.kept w c.args.step c.in-Err._refusal reached.stands c.actors.ensures.built (c.in-Err.ensures.steps h w w reached);
      hub = c.in-Err.ensures.goes;
      ground = c.make_ready.ensures.ground;
      running = c.make_ready.ensures.running;
      frames = c.make_ready.ensures.frames;
      looked = c.make_ready.ensures.looked;
      home = c.make_ready.ensures.home;
    })

pub returns-in-Err-clause-told : goal.returns-in-Err-clause-told
returns-in-Err-clause-told g c = λ basis start le on told. (
  λ answer is. absurd (cc),
  c.make_ready.ensures.told basis start le on told,
  basis_goes g.D.Disk basis c.args.self.now.engine c.make_ready.new.self.engine c.args.disk.now c.make_ready.new.disk c.make_ready.ensures.looked c.in-Err.ensures.goes on,
)

pub returns-in-Err-clause-keeps : goal.returns-in-Err-clause-keeps
returns-in-Err-clause-keeps g c = step_keeps g.D.Disk c.args.self.now c.make_ready.new.self c.args.disk.now c.make_ready.new.disk c.args.step reply.More
    (record {
      led = λ h w reached. led_out (CauseSince g.D.Disk c.args.disk.now c.make_ready.new.disk c.args.self.now.frames w) c.args.self.now c.make_ready.new.self.engine c.args.self.now.ground.kept c.make_ready.new.self.ground.kept w c.args.step c.in-Err._refusal reached.stands c.actors.ensures.built (c.in-Err.ensures.steps h w w reached);
      hub = c.in-Err.ensures.goes;
      ground = c.make_ready.ensures.ground;
      running = c.make_ready.ensures.running;
      frames = c.make_ready.ensures.frames;
      looked = c.make_ready.ensures.looked;
      home = c.make_ready.ensures.home;
    })
