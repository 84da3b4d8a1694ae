use Rattle.std.specs.Prelude.{None}
use Rattle.std.proofs.Common.{◌∙◌, ◌<◌, length, arith, sym, subst, ap}
use Rattle.engine_store.specs.Progress.{place_in}
use Rattle.engine_store.specs.declared.store.Store.{Store}
use Rattle.script_run.specs.Runs.{StandsAt}
use Rattle.script_run.specs.Scripts.{opened_more}
use Rattle.script_run.proofs.Holding.{keeps_none, keeps_then}
use Rattle.script_run.proofs.Opening.{all-opened, is-no-session, no-more, none-opened, one-opened}
use Rattle.script_run.proofs.Telling.{same_told}
use Rattle.script_run.proofs.one_line.open_up_to.Goals as goal

pub opening-init : goal.opening-init
opening-init g c =
    let store = c.args.store.now in
    record {
      opens = λ disk honest first s w at. none-opened c.args.session w (λ v. StandsAt g.D.Disk first store disk s v) (length store.engine.sessions) (sym at.held.stands.doings) at;
      told = λ disk. same_told g.D.Disk store disk;
      keeps = λ disk. keeps_none g.D.Disk store disk;
    }

pub opening-preserved : goal.opening-preserved
opening-preserved g c =
    let i = c.opening.invariant in
    let store = c.opening.store in
    let store' = c.open_session.new.self in
    let before = c.args.store.now in
    record {
      opens = λ disk honest first s w at.
          let h = i.opens disk honest first s w at in
          let x = c.in-Ok.ensures.opened disk ((i.keeps disk).looked.same ∙ honest) first (opened_more h.count w) s.first s.made h.holds.held in
          one-opened c.args.session w (λ v. StandsAt g.D.Disk first store disk s v) (λ v. StandsAt g.D.Disk first store' disk s v) (length store.engine.sessions) (length store'.engine.sessions) h
          (omega (arith, c.opening-test.true, c.sessions.ensures)) c.in-Ok.ensures.more (record { held = x.held; device = h.holds.device; frames = (c.in-Ok.ensures.keeps disk).frames ∙ h.holds.frames; progress = ap place_in (c.in-Ok.ensures.keeps disk).running ∙ h.holds.progress });
      told = λ disk start le are. (c.in-Ok.ensures.told disk None start le tt (i.told disk start le are)).1;
      keeps = λ disk. keeps_then g.D.Disk before store store' disk disk disk (i.keeps disk) (c.in-Ok.ensures.keeps disk);
    }

pub returns-in-Err : goal.returns-in-Err
returns-in-Err g c =
    let i = c.opening.invariant in
    let store = c.opening.store in
    let store' = c.open_session.new.self in
    record {
      opens = λ disk honest first s w at.
          no-more c.args.session w (λ v. StandsAt g.D.Disk first store disk s v) (λ v. StandsAt g.D.Disk first store' disk s v) (length store.engine.sessions) c.in-Err.refusal (i.opens disk honest first s w at)
          (omega (arith, c.opening-test.true, c.sessions.ensures)) c.in-Err.ensures.refused (λ v at. subst (λ (x : Store). StandsAt g.D.Disk first x disk s v) (sym c.in-Err.ensures.same) at);
      refused = is-no-session c.in-Err.refusal (length store.engine.sessions) c.in-Err.ensures.refused;
      there = tt;
      told = λ disk start le are. (c.in-Err.ensures.told disk None start le tt (i.told disk start le are)).1;
      keeps = λ disk. keeps_then g.D.Disk c.args.store.now store store' disk disk disk (i.keeps disk) (c.in-Err.ensures.keeps disk);
    }

pub returns : goal.returns
returns g c =
    let i = c.opening.invariant in
    let store = c.opening.store in
    let there : c.args.session < length store.engine.sessions = omega (arith, c.opening-test.false, c.sessions.ensures) in
    record {
      opens = λ disk honest first s w at. all-opened c.args.session w (λ v. StandsAt g.D.Disk first store disk s v) (length store.engine.sessions) (i.opens disk honest first s w at) there;
      refused = tt;
      there = there;
      told = i.told;
      keeps = i.keeps;
    }
