use Rattle.std.proofs.Common.{◌∙◌}
use Rattle.engine.specs.Told.{answer_in}
use Rattle.engine_store.specs.Keeping.{with_kept}
use Rattle.engine_store.proofs.Telling.{called_told, keep_told}
use Rattle.engine_store.proofs.StepsGoing.{steps_come}
use Rattle.engine_store.proofs.UnderWay.{calls_go}
use Rattle.engine_store.proofs.store.Store.go_on.Goals as goal

pub returns-clause-calls : goal.returns-clause-calls
returns-clause-calls g c = λ h w now asked there reached under.
    calls_go g.D.Disk c.args.self.now.frames c.args.disk.now c.let_in.new.disk c.let_in.new.self.engine c.resume.new.self c.let_in.new.self.ground.kept w now c.args.session asked c.let_in.result c.resume.result
    (c.let_in.ensures.reaches h w now asked there reached under) (λ kept x way stands. c.resume.ensures.answer kept (with_kept c.let_in.new.self.ground.kept w) x asked there way stands) under
    (c.resume.ensures.goes.fault ∙ (c.let_in.ensures.goes.fault ∙ (reached.stands.fault ∙ reached.fault))) c.resume.ensures.waits

pub returns-clause-steps : goal.returns-clause-steps
returns-clause-steps g c = λ h w now reached.
    steps_come g.D.Disk c.args.self.now.frames c.args.disk.now c.let_in.new.disk c.let_in.new.self.engine c.resume.new.self c.let_in.new.self.ground.kept w now c.args.session c.let_in.result c.resume.result (c.let_in.ensures.steps h w now reached) c.resume.ensures.ends

pub returns-clause-told : goal.returns-clause-told
returns-clause-told g c = λ basis start le on told.
    let mid = c.let_in.new.self.engine in
    let kept = c.let_in.ensures.told basis start le on told in (
      called_told g.D.Disk basis start c.let_in.new.disk (answer_in mid c.args.session) c.resume.result c.resume.ensures.tells (kept c.args.session),
      keep_told g.D.Disk basis start c.let_in.new.disk mid c.resume.new.self c.resume.ensures.own kept,
    )
