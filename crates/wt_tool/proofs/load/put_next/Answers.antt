use Rattle.std.proofs.Common.{List, ℕ, subst}
use Rattle.std.specs.Prelude.{Err}
use Rattle.wt_code.specs.declared.refusals.Refusal.TheVariants.{NoMemory}
use Rattle.wt_tool.specs.Loads.{PutsRow, PutsRows}
use Rattle.wt_tool.specs.Led.{LedBy}
use Rattle.wt_tool.specs.Writes.{demand_of}
use Rattle.wt_tool.proofs.Loading.{row_behind, row_fails, row_short}
use Rattle.wt_tool.proofs.Went.{out_of, out_then, same_honest, short_went, went_then}
use Rattle.wt_tool.proofs.load.put_next.Goals as goal

pub returns-in_default-clause-led : goal.returns-in_default-clause-led
returns-in_default-clause-led g c rows h start first w holds =
    row_short g.D.Disk start first c.args.name.now (demand_of c.args.overwrite) (c.args.key, c.args.value) rows w c.args.store.now c.args.disk.now holds

pub returns-in_default-clause-went : goal.returns-in_default-clause-went
returns-in_default-clause-went g c = out_of g.D.Disk c.args.store.now c.args.store.now c.args.disk.now c.args.disk.now (Err NoMemory) (short_went g.D.Disk c.args.store.now c.args.disk.now)

pub returns-in_default-clause-looked : goal.returns-in_default-clause-looked
returns-in_default-clause-looked g c = λ no. short_went g.D.Disk c.args.store.now c.args.disk.now

pub returns-in-Ok-make_room-clause-led : goal.returns-in-Ok-make_room-clause-led
returns-in-Ok-make_room-clause-led g c rows h start first w holds =
    let D = g.D.Disk in
    let mid = same_honest D c.args.disk.now c.make_room.new.disk c.in-Ok-make_room.ensures.went.disk h in
    row_behind D start first c.args.name.now (demand_of c.args.overwrite) (c.args.key, c.args.value) rows w c.make_room.new.store c.put_row.new.store c.args.disk.now c.make_room.new.disk c.put_row.new.disk c.put_row.result
    (c.in-Ok-make_room.ensures.out h start first w holds)
    (λ v held. subst (λ (n : List ℕ). LedBy D start first v c.put_row.new.store c.make_room.new.disk c.put_row.new.disk (PutsRow n (demand_of c.args.overwrite) (c.args.key, c.args.value) (PutsRows n (demand_of c.args.overwrite) rows)) (PutsRows n (demand_of c.args.overwrite) rows) c.put_row.result)
    c.in-Ok.ensures (c.put_row.ensures.led rows mid start first v held))

pub returns-in-Ok-make_room-clause-went : goal.returns-in-Ok-make_room-clause-went
returns-in-Ok-make_room-clause-went g c =
    out_then g.D.Disk c.args.store.now c.make_room.new.store c.put_row.new.store c.args.disk.now c.make_room.new.disk c.put_row.new.disk c.put_row.result c.in-Ok-make_room.ensures.went
    (out_of g.D.Disk c.make_room.new.store c.put_row.new.store c.make_room.new.disk c.put_row.new.disk c.put_row.result c.put_row.ensures.went)

pub returns-in-Ok-make_room-clause-looked : goal.returns-in-Ok-make_room-clause-looked
returns-in-Ok-make_room-clause-looked g c = λ no.
    went_then g.D.Disk c.args.store.now c.make_room.new.store c.put_row.new.store c.args.disk.now c.make_room.new.disk c.put_row.new.disk c.put_row.result (c.in-Ok-make_room.ensures.looked no) c.put_row.ensures.went

pub returns-in-Err-clause-led : goal.returns-in-Err-clause-led
returns-in-Err-clause-led g c rows h start first w holds =
    row_fails g.D.Disk start first c.args.name.now (demand_of c.args.overwrite) (c.args.key, c.args.value) rows w c.make_room.new.store c.args.disk.now c.make_room.new.disk c.in-Err.refusal c.in-Err.ensures.fault (c.in-Err.ensures.out h start first w holds)
