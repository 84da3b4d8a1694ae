use Rattle.engine_store.specs.Fetches.{CauseSince}
use Rattle.engine_store.specs.Keeping.{with_kept}
use Rattle.engine_store.proofs.Telling.{out_told, told_on}
use Rattle.engine_store.proofs.UnderWay.{comes_not, reaches_not, still_stands, under_kept}
use Rattle.engine_store.proofs.store.Store.let_in.Goals as goal

pub returns-in-Ok-clause-reaches : goal.returns-in-Ok-clause-reaches
returns-in-Ok-clause-reaches g c = λ h w now asked there reached under. c.in-Ok.ensures.stands h w now reached

pub returns-in-Ok-clause-told : goal.returns-in-Ok-clause-told
returns-in-Ok-clause-told g c = λ basis start le on told.
    told_on g.D.Disk basis start c.args.disk.now c.fetch.new.disk c.fetch.ensures.looked.same c.fetch.ensures.looked.count c.args.self.now.engine c.fetch.new.self.engine c.fetch.ensures.sessions told

pub returns-in-Err-clause-steps : goal.returns-in-Err-clause-steps
returns-in-Err-clause-steps g c = λ h w now reached.
    let s = c.fetch.new.self in
    comes_not (CauseSince g.D.Disk c.args.disk.now c.fetch.new.disk c.args.self.now.frames w now) c.keep_out.new.self s.ground.kept now c.args.session c.in-Err.refusal (c.in-Err.ensures.cause h w now reached)
    (c.keep_out.ensures.steps (with_kept s.ground.kept now) (still_stands c.args.self.now s now c.in-Err.ensures.kept c.in-Err.ensures.keeps reached.stands))

pub returns-in-Err-clause-reaches : goal.returns-in-Err-clause-reaches
returns-in-Err-clause-reaches g c = λ h w now asked there reached under.
    let s = c.fetch.new.self in
    reaches_not (CauseSince g.D.Disk c.args.disk.now c.fetch.new.disk c.args.self.now.frames w now) c.keep_out.new.self s.ground.kept w now c.args.session asked c.in-Err.refusal (c.in-Err.ensures.cause h w now reached)
    (c.keep_out.ensures.reaches (with_kept s.ground.kept w) (with_kept s.ground.kept now) asked there (under_kept s.ground.kept w now c.args.session asked under) (still_stands c.args.self.now s now c.in-Err.ensures.kept c.in-Err.ensures.keeps reached.stands))

pub returns-in-Err-clause-told : goal.returns-in-Err-clause-told
returns-in-Err-clause-told g c = λ basis start le on told.
    out_told g.D.Disk basis start c.fetch.new.disk c.args.session c.in-Err.refusal c.fetch.new.self.engine c.keep_out.new.self c.keep_out.ensures.own (c.in-Err.ensures.told basis start le on)
    (told_on g.D.Disk basis start c.args.disk.now c.fetch.new.disk c.fetch.ensures.looked.same c.fetch.ensures.looked.count c.args.self.now.engine c.fetch.new.self.engine c.fetch.ensures.sessions told)
