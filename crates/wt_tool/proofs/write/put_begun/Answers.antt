use Rattle.wt_calls.specs.Calls.{session_call_in}
use Rattle.wt_tool.specs.Writes.{demand_of}
use Rattle.wt_tool.proofs.Putting.{begun_led, begun_refused, begun_short}
use Rattle.wt_tool.proofs.Went.{short_went_as, still_honest, went_then}
use Rattle.wt_tool.proofs.write.put_begun.Goals as goal

pub commit-requires-clause-ready : goal.commit-requires-clause-ready
commit-requires-clause-ready g c = c.in-Ok-call.ensures.went.ready c.requires.ready

pub returns-in-Ok-call-clause-led : goal.returns-in-Ok-call-clause-led
returns-in-Ok-call-clause-led g c pairs h start first w holds =
    begun_led g.D.Disk start first c.args.name.now (demand_of c.args.overwrite) (c.args.key.now, c.args.value.now) pairs w c.call.new.store c.commit.new.store c.args.disk.now c.call.new.disk c.commit.new.disk (session_call_in c.in-Ok.put) c.commit.result
    (c.in-Ok.ensures.put _ holds.held.stands) (c.in-Ok-call.ensures.led h start first w holds)
    (λ v held. c.commit.ensures.led (still_honest g.D.Disk c.args.disk.now c.call.new.disk c.in-Ok-call.ensures.went.looked h) start first v held)

pub returns-in-Ok-call-clause-went : goal.returns-in-Ok-call-clause-went
returns-in-Ok-call-clause-went g c = went_then g.D.Disk c.args.store.now c.call.new.store c.commit.new.store c.args.disk.now c.call.new.disk c.commit.new.disk c.commit.result c.in-Ok-call.ensures.went c.commit.ensures.went

pub returns-in-Err-call-clause-led : goal.returns-in-Err-call-clause-led
returns-in-Err-call-clause-led g c pairs h start first w holds =
    begun_refused g.D.Disk start first c.args.name.now (demand_of c.args.overwrite) (c.args.key.now, c.args.value.now) pairs w c.call.new.store c.args.disk.now c.call.new.disk (session_call_in c.in-Ok.put) c.in-Err-call.refusal
    (c.in-Ok.ensures.put _ holds.held.stands) (c.in-Err-call.ensures.led h start first w holds)

pub returns-in-Err-clause-led : goal.returns-in-Err-clause-led
returns-in-Err-clause-led g c pairs h start first w holds =
    begun_short g.D.Disk start first c.args.name.now (demand_of c.args.overwrite) (c.args.key.now, c.args.value.now) pairs w c.args.store.now c.args.disk.now c.in-Err.refusal c.in-Err.ensures.short holds

pub returns-in-Err-clause-went : goal.returns-in-Err-clause-went
returns-in-Err-clause-went g c = short_went_as g.D.Disk c.args.store.now c.args.disk.now c.in-Err.refusal c.in-Err.ensures.short
