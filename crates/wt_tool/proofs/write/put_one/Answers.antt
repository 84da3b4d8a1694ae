use Rattle.wt_tool.specs.Writes.{demand_of}
use Rattle.wt_tool.proofs.Putting.{put_led, put_refused}
use Rattle.wt_tool.proofs.Went.{still_honest, went_then}
use Rattle.wt_tool.proofs.write.put_one.Goals as goal

pub put_begun-requires-clause-ready : goal.put_begun-requires-clause-ready
put_begun-requires-clause-ready g c = c.in-Ok.ensures.went.ready c.requires.ready

pub returns-in-Ok-clause-led : goal.returns-in-Ok-clause-led
returns-in-Ok-clause-led g c pairs h start first w holds =
    put_led g.D.Disk start first c.args.name.now (demand_of c.args.overwrite) (c.args.key.now, c.args.value.now) pairs w c.call.new.store c.put_begun.new.store c.args.disk.now c.call.new.disk c.put_begun.new.disk c.put_begun.result
    (c.in-Ok.ensures.led h start first w holds) (λ v held. c.put_begun.ensures.led pairs (still_honest g.D.Disk c.args.disk.now c.call.new.disk c.in-Ok.ensures.went.looked h) start first v held)

pub returns-in-Ok-clause-went : goal.returns-in-Ok-clause-went
returns-in-Ok-clause-went g c = went_then g.D.Disk c.args.store.now c.call.new.store c.put_begun.new.store c.args.disk.now c.call.new.disk c.put_begun.new.disk c.put_begun.result c.in-Ok.ensures.went c.put_begun.ensures.went

pub returns-in-Err-clause-led : goal.returns-in-Err-clause-led
returns-in-Err-clause-led g c pairs h start first w holds =
    put_refused g.D.Disk start first c.args.name.now (demand_of c.args.overwrite) (c.args.key.now, c.args.value.now) pairs w c.call.new.store c.args.disk.now c.call.new.disk c.in-Err.refusal (c.in-Err.ensures.led h start first w holds)
