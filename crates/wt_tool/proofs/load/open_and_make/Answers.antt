use Rattle.wt_tool.proofs.Loading.{begins_led, unopened_led}
use Rattle.wt_tool.proofs.Went.{went_then}
use Rattle.wt_tool.proofs.load.open_and_make.Goals as goal

pub returns-in-Ok-clause-led : goal.returns-in-Ok-clause-led
returns-in-Ok-clause-led g c disk demand rows h start first w holds =
    begins_led g.D.Disk start first c.args.name.now c.args.formats demand rows w disk c.open.new.store c.make.new.store c.make.result (c.in-Ok.ensures.led disk h start first w holds) (λ v held. c.make.ensures.led disk h start first v held)

pub returns-in-Ok-clause-went : goal.returns-in-Ok-clause-went
returns-in-Ok-clause-went g c disk = went_then g.D.Disk c.args.store.now c.open.new.store c.make.new.store disk disk disk c.make.result (c.in-Ok.ensures.went disk) (c.make.ensures.went disk)

pub returns-in-Err-clause-led : goal.returns-in-Err-clause-led
returns-in-Err-clause-led g c disk demand rows h start first w holds =
    unopened_led g.D.Disk start first c.args.name.now c.args.formats demand rows w disk c.open.new.store c.in-Err.refusal (c.in-Err.ensures.led disk h start first w holds)
