use Rattle.std.proofs.Common.{subst}
use Rattle.engine.specs.declared.called.Called.{Called}
use Rattle.engine_store.specs.Fetches.{CalledSo}
use Rattle.engine_store.proofs.Rounds.{GoneOn, gone_more}
use Rattle.engine_store.proofs.store.Store.end.Goals as goal

pub returns-in-Ended-clause-told : goal.returns-in-Ended-clause-told
returns-in-Ended-clause-told g c = λ basis start le on so told.
    let x = c.loop-called.invariant.told basis start le on so told in
    (subst (λ (called : Called). CalledSo g.D.Disk basis start c.loop-called.disk called) c.in-Ended.is x.0, x.1)

pub loop-called-preserved : goal.loop-called-preserved
loop-called-preserved g c =
    gone_more g.D.Disk c.args.disk.now c.loop-called.disk c.go_on-called.new.disk c.args.self.now c.loop-called.self c.go_on-called.new.self c.args.called c.go_on-called.result c.args.session c.in-Waits.leaf
    (subst (λ (called : Called). GoneOn g.D.Disk c.args.disk.now c.loop-called.disk c.args.self.now c.loop-called.self c.args.called called c.args.session) c.in-Waits.is c.loop-called.invariant)
    (record {
      calls = c.go_on-called.ensures.calls;
      steps = c.go_on-called.ensures.steps;
      told = c.go_on-called.ensures.told;
      waits = c.go_on-called.ensures.waits;
      goes = c.go_on-called.ensures.goes;
      ground = c.go_on-called.ensures.ground;
      running = c.go_on-called.ensures.running;
      frames = c.go_on-called.ensures.frames;
      sessions = c.go_on-called.ensures.sessions;
      looked = c.go_on-called.ensures.looked;
      home = c.go_on-called.ensures.home;
    })
