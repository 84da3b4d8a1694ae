use Rattle.std.proofs.Common.{[], ◌∙◌, sym}
use Rattle.wt_tool.proofs.Holding.{opened_done, opened_refused}
use Rattle.wt_tool.proofs.Went.{opened_went, unopened_went}
use Rattle.wt_tool.proofs.sessions.open.Goals as goal

pub returns-in-Ok-clause-led : goal.returns-in-Ok-clause-led
returns-in-Ok-clause-led g c disk h start first w holds =
    opened_done g.D.Disk start first w c.args.store.now disk holds c.open_session.new.self _ (c.in-Ok.ensures.keeps disk).frames (sym holds.held.stands.count ∙ c.requires.none) (c.in-Ok.ensures.opened disk h start w first [] holds.held)

pub returns-in-Ok-clause-went : goal.returns-in-Ok-clause-went
returns-in-Ok-clause-went g c disk = opened_went g.D.Disk c.args.store.now c.open_session.new.self disk (c.in-Ok.ensures.keeps disk) (c.in-Ok.ensures.told disk)

pub returns-in-Err-clause-led : goal.returns-in-Err-clause-led
returns-in-Err-clause-led g c disk h start first w holds = opened_refused g.D.Disk start first w c.args.store.now disk holds c.open_session.new.self c.in-Err.refusal c.requires.none c.in-Err.ensures.same c.in-Err.ensures.refused

pub returns-in-Err-clause-went : goal.returns-in-Err-clause-went
returns-in-Err-clause-went g c disk = unopened_went g.D.Disk c.args.store.now c.open_session.new.self disk c.in-Err.refusal (c.in-Err.ensures.keeps disk) (c.in-Err.ensures.told disk) c.in-Err.ensures.refused
