use Rattle.std.proofs.Common.{◌≡◌, List, ℕ, refl}
use Rattle.std.specs.Prelude.{Ok, Err}
use Rattle.kv_model.specs.Calls.{PutKey}
use Rattle.kv_model.specs.Decisions.{Demand}
use Rattle.wt_calls.specs.Calls.{demand_in}
use Rattle.wt_tool.specs.Writes.{demand_of}
use Rattle.wt_tool.proofs.Loading.{row_put, row_unbegun, row_unput}
use Rattle.wt_tool.proofs.Went.{still_honest, went_then}
use Rattle.wt_tool.proofs.load.put_row.Goals as goal

put_is : (table name key value : List ℕ) (d e : Demand) → table ≡ name → d ≡ e → PutKey table key value d ≡ PutKey name key value e
put_is table name key value d e same asks = λ i. PutKey (same i) key value (asks i)

pub call-requires-2-clause-ready : goal.call-requires-2-clause-ready
call-requires-2-clause-ready g c = c.in-Ok.ensures.went.ready c.requires.ready

pub commit-requires-clause-ready : goal.commit-requires-clause-ready
commit-requires-clause-ready g c = c.in-Ok-call.ensures.went.ready (c.in-Ok.ensures.went.ready c.requires.ready)

pub returns-in-Err-clause-led : goal.returns-in-Err-clause-led
returns-in-Err-clause-led g c rows h start first w holds =
    row_unbegun g.D.Disk start first c.args.table (demand_of c.args.overwrite) (c.args.key, c.args.value) rows w c.call.new.store c.args.disk.now c.call.new.disk c.in-Err.refusal (c.in-Err.ensures.led h start first w holds)

pub returns-in-Ok-call-clause-led : goal.returns-in-Ok-call-clause-led
returns-in-Ok-call-clause-led g c rows h start first w holds =
    let D = g.D.Disk in
    let begun = still_honest D c.args.disk.now c.call.new.disk c.in-Ok.ensures.went.looked h in
    let put = still_honest D c.call.new.disk c.call-2.new.disk c.in-Ok-call.ensures.went.looked begun in
    row_put D start first c.args.table (demand_of c.args.overwrite) (c.args.key, c.args.value) rows (PutKey c.args.table c.args.key c.args.value (demand_in c.demand_for.result))
    (put_is c.args.table c.args.table c.args.key c.args.value (demand_in c.demand_for.result) (demand_of c.args.overwrite) refl c.demand_for.ensures)
    w c.call.new.store c.call-2.new.store c.args.disk.now c.call.new.disk c.call-2.new.disk (c.in-Ok.ensures.led h start first w holds) c.commit.new.store c.commit.new.disk c.commit.result
    (λ v held. c.in-Ok-call.ensures.led begun start first v held) (λ v held. c.commit.ensures.led put start first v held)

pub returns-in-Ok-call-clause-went : goal.returns-in-Ok-call-clause-went
returns-in-Ok-call-clause-went g c =
    let D = g.D.Disk in
    went_then D c.args.store.now c.call-2.new.store c.commit.new.store c.args.disk.now c.call-2.new.disk c.commit.new.disk c.commit.result
    (went_then D c.args.store.now c.call.new.store c.call-2.new.store c.args.disk.now c.call.new.disk c.call-2.new.disk (Ok tt) c.in-Ok.ensures.went c.in-Ok-call.ensures.went) c.commit.ensures.went

pub returns-in-Err-call-clause-led : goal.returns-in-Err-call-clause-led
returns-in-Err-call-clause-led g c rows h start first w holds =
    let D = g.D.Disk in
    let begun = still_honest D c.args.disk.now c.call.new.disk c.in-Ok.ensures.went.looked h in
    row_unput D start first c.args.table (demand_of c.args.overwrite) (c.args.key, c.args.value) rows (PutKey c.args.table c.args.key c.args.value (demand_in c.demand_for.result))
    (put_is c.args.table c.args.table c.args.key c.args.value (demand_in c.demand_for.result) (demand_of c.args.overwrite) refl c.demand_for.ensures)
    w c.call.new.store c.call-2.new.store c.args.disk.now c.call.new.disk c.call-2.new.disk (c.in-Ok.ensures.led h start first w holds) c.in-Err-call.refusal
    (λ v held. c.in-Err-call.ensures.led begun start first v held)

pub returns-in-Err-call-clause-went : goal.returns-in-Err-call-clause-went
returns-in-Err-call-clause-went g c = went_then g.D.Disk c.args.store.now c.call.new.store c.call-2.new.store c.args.disk.now c.call.new.disk c.call-2.new.disk (Err c.in-Err-call.refusal) c.in-Ok.ensures.went c.in-Err-call.ensures.went

pub returns-in-Ok-call-clause-undamaged : goal.returns-in-Ok-call-clause-undamaged
returns-in-Ok-call-clause-undamaged g c h start first w holds =
    let D = g.D.Disk in
    let begun = still_honest D c.args.disk.now c.call.new.disk c.in-Ok.ensures.went.looked h in
    let put = still_honest D c.call.new.disk c.call-2.new.disk c.in-Ok-call.ensures.went.looked begun in
    let one = c.in-Ok.ensures.led h start first w holds in
    let two = c.in-Ok-call.ensures.led begun start first one.0 one.1 in
    c.commit.ensures.undamaged put start first two.0 two.1

pub returns-in-Err-call-clause-undamaged : goal.returns-in-Err-call-clause-undamaged
returns-in-Err-call-clause-undamaged g c h start first w holds =
    let one = c.in-Ok.ensures.led h start first w holds in
    c.in-Err-call.ensures.undamaged (still_honest g.D.Disk c.args.disk.now c.call.new.disk c.in-Ok.ensures.went.looked h) start first one.0 one.1
