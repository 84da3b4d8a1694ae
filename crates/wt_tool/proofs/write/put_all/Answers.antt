use Rattle.std.proofs.Common.{ℕ, List, arith}
use Rattle.std.specs.Prelude.{Ok, Err}
use Rattle.kv_model.specs.Decisions.{Demand}
use Rattle.wt_line.specs.Line.{pair_texts}
use Rattle.wt_tool.specs.Points.{Point, Ran, WithSession}
use Rattle.wt_tool.specs.Writes.{PutsPairs, demand_of}
use Rattle.wt_tool.proofs.Leading.{opened_led}
use Rattle.wt_tool.proofs.Putting.{Words, led_next, led_end}
use Rattle.wt_tool.proofs.Went.{still_honest, went_then}
use Rattle.wt_tool.proofs.write.put_all.Goals as goal

abbrev First : List ℕ → Demand → Words → Point → Ran → Type 0
First name demand pairs p ran = WithSession (PutsPairs name demand (pair_texts pairs)) p ran

pub loop-key-init : goal.loop-key-init
loop-key-init g c = record {
  led = λ h start first w holds. opened_led g.D.Disk start first (PutsPairs c.args.name.now (demand_of c.args.overwrite) (pair_texts c.args.pairs.now)) w c.open.new.store c.args.disk.now (Ok tt) (c.in-Ok.ensures.led c.args.disk.now h start first w holds);
  went = c.in-Ok.ensures.went c.args.disk.now;
  there = c.in-Ok.ensures.there;
}

pub put_one-requires-clause-ready : goal.put_one-requires-clause-ready
put_one-requires-clause-ready g c = c.loop-key.invariant.went.ready c.requires.ready

pub loop-key-preserved : goal.loop-key-preserved
loop-key-preserved g c = record {
  led = λ h start first w holds.
      led_next g.D.Disk start first c.args.name.now (demand_of c.args.overwrite) c.args.pairs.now c.loop-key.key-index (First c.args.name.now (demand_of c.args.overwrite) c.args.pairs.now) w c.loop-key.store c.args.disk.now c.loop-key.disk c.put_one.new.store c.put_one.new.disk (Ok tt) c.loop-key-test.true
      (c.loop-key.invariant.led h start first w holds)
      (λ v held more. c.in-Ok-put_one.ensures.led more (still_honest g.D.Disk c.args.disk.now c.loop-key.disk c.loop-key.invariant.went.looked h) start first v held);
  went = went_then g.D.Disk c.args.store.now c.loop-key.store c.put_one.new.store c.args.disk.now c.loop-key.disk c.put_one.new.disk (Ok tt) c.loop-key.invariant.went c.in-Ok-put_one.ensures.went;
  there = omega (arith, c.loop-key.invariant.there, c.put_one.ensures.there);
}

pub returns-in-Err-clause-led : goal.returns-in-Err-clause-led
returns-in-Err-clause-led g c h start first w holds =
    opened_led g.D.Disk start first (PutsPairs c.args.name.now (demand_of c.args.overwrite) (pair_texts c.args.pairs.now)) w c.open.new.store c.args.disk.now (Err c.in-Err.refusal) (c.in-Err.ensures.led c.args.disk.now h start first w holds)

pub returns-in-Err-clause-went : goal.returns-in-Err-clause-went
returns-in-Err-clause-went g c = c.in-Err.ensures.went c.args.disk.now

pub returns-in-Err-put_one-clause-led : goal.returns-in-Err-put_one-clause-led
returns-in-Err-put_one-clause-led g c h start first w holds =
    let led = led_next g.D.Disk start first c.args.name.now (demand_of c.args.overwrite) c.args.pairs.now c.loop-key.key-index (First c.args.name.now (demand_of c.args.overwrite) c.args.pairs.now) w c.loop-key.store c.args.disk.now c.loop-key.disk c.put_one.new.store c.put_one.new.disk (Err c.in-Err-put_one.refusal) c.loop-key-test.true
    (c.loop-key.invariant.led h start first w holds)
    (λ v held more. c.in-Err-put_one.ensures.led more (still_honest g.D.Disk c.args.disk.now c.loop-key.disk c.loop-key.invariant.went.looked h) start first v held) in
    led

pub returns-in-Err-put_one-clause-went : goal.returns-in-Err-put_one-clause-went
returns-in-Err-put_one-clause-went g c = went_then g.D.Disk c.args.store.now c.loop-key.store c.put_one.new.store c.args.disk.now c.loop-key.disk c.put_one.new.disk (Err c.in-Err-put_one.refusal) c.loop-key.invariant.went c.in-Err-put_one.ensures.went

pub returns-clause-led : goal.returns-clause-led
returns-clause-led g c h start first w holds =
    led_end g.D.Disk start first c.args.name.now (demand_of c.args.overwrite) c.args.pairs.now c.loop-key.key-index (First c.args.name.now (demand_of c.args.overwrite) c.args.pairs.now) w c.loop-key.store c.args.disk.now c.loop-key.disk c.loop-key-test.false (c.loop-key.invariant.led h start first w holds)

pub returns-clause-went : goal.returns-clause-went
returns-clause-went g c = c.loop-key.invariant.went
