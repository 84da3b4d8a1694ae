use Rattle.std.proofs.Common.{ℕ, List, subst, sym, arith}
use Rattle.std.specs.Prelude.{Bool, Result, Ok, Err}
use Rattle.item.specs.declared.Formats.{Formats}
use Rattle.wt_code.specs.declared.refusals.Refusal.{Refusal}
use Rattle.dump_text.specs.Grammar.{Row}
use Rattle.wt_tool.specs.Led.{LedBy}
use Rattle.wt_tool.specs.Points.{Point, Ran}
use Rattle.wt_tool.specs.Loads.{ClosesLoad, LoadsRows}
use Rattle.wt_tool.specs.Writes.{demand_of}
use Rattle.wt_tool.proofs.Loading.{row_none, row_taken, rows_end, rows_next, rows_short}
use Rattle.wt_tool.proofs.Went.{load_call, load_done, load_short, load_told, out_of, out_then, same_honest, went_then}
use Rattle.wt_tool.proofs.load.put_all.Goals as goal

abbrev First : List ℕ → Formats → Bool → List Row → Point → Ran → Type 0
First name formats overwrite rows p ran = LoadsRows name formats (demand_of overwrite) rows p ran

pub rows-init : goal.rows-init
rows-init g c = record {
  led = λ h start first w holds. c.in-Ok.ensures.led c.args.disk.now (demand_of c.args.overwrite) c.args.rows h start first w holds;
  out = out_of g.D.Disk c.args.store.now c.open_and_make.new.store c.args.disk.now c.args.disk.now (Ok tt) (c.in-Ok.ensures.went c.args.disk.now);
  looked = λ old. c.in-Ok.ensures.went c.args.disk.now;
  there = c.in-Ok.ensures.there;
}

pub put_next-requires-clause-ready : goal.put_next-requires-clause-ready
put_next-requires-clause-ready g c = c.rows.invariant.out.ready c.requires.ready

pub rows-preserved : goal.rows-preserved
rows-preserved g c = record {
  led = λ h start first w holds.
      rows_next g.D.Disk start first c.args.name.now (demand_of c.args.overwrite) (First c.args.name.now c.args.formats c.args.overwrite c.args.rows) w c.rows.store c.args.disk.now c.rows.disk c.put_next.new.store c.put_next.new.disk (Ok tt) c.rows.rows c.next.new.self (c.in-Ok-Some.key, c.in-Ok-Some.value)
      (row_taken c.in-Ok-Some.field-0 (c.in-Ok-Some.key, c.in-Ok-Some.value) c.rows.rows c.next.new.self c.in-Ok-Some.field-0-is c.in-Ok-Some.ensures.row) (c.rows.invariant.led h start first w holds)
      (λ v held. c.in-Ok-put_next.ensures.led c.next.new.self (same_honest g.D.Disk c.args.disk.now c.rows.disk c.rows.invariant.out.disk h) start first v held);
  out = out_then g.D.Disk c.args.store.now c.rows.store c.put_next.new.store c.args.disk.now c.rows.disk c.put_next.new.disk (Ok tt) c.rows.invariant.out c.in-Ok-put_next.ensures.went;
  looked = λ old. went_then g.D.Disk c.args.store.now c.rows.store c.put_next.new.store c.args.disk.now c.rows.disk c.put_next.new.disk (Ok tt) (c.rows.invariant.looked old) (c.in-Ok-put_next.ensures.looked (c.is_due-due.ensures old));
  there = omega (arith, c.rows.invariant.there, c.put_next.ensures.there);
}

pub returns-in-Err-clause-led : goal.returns-in-Err-clause-led
returns-in-Err-clause-led g c h start first w holds = c.in-Err.ensures.led c.args.disk.now (demand_of c.args.overwrite) c.args.rows h start first w holds

pub returns-in-Err-clause-went : goal.returns-in-Err-clause-went
returns-in-Err-clause-went g c = load_call g.D.Disk c.args.store.now c.open_and_make.new.store c.args.disk.now c.args.disk.now c.requires.none c.in-Err.refusal (c.in-Err.ensures.went c.args.disk.now)

pub returns-in-Ok-None-clause-led : goal.returns-in-Ok-None-clause-led
returns-in-Ok-None-clause-led g c h start first w holds =
    rows_end g.D.Disk start first c.args.name.now (demand_of c.args.overwrite) (First c.args.name.now c.args.formats c.args.overwrite c.args.rows) w c.rows.store c.args.disk.now c.rows.disk c.rows.rows
    (row_none c.in-Ok-None.field-0 c.rows.rows c.next.new.self c.in-Ok-None.field-0-is c.in-Ok-None.ensures.row) (c.rows.invariant.led h start first w holds)

pub returns-in-Ok-None-clause-went : goal.returns-in-Ok-None-clause-went
returns-in-Ok-None-clause-went g c = load_done g.D.Disk c.args.store.now c.rows.store c.args.disk.now c.rows.disk c.requires.none c.rows.invariant.out

pub returns-in-Err-next-clause-led : goal.returns-in-Err-next-clause-led
returns-in-Err-next-clause-led g c h start first w holds =
    rows_short g.D.Disk start first c.args.name.now (demand_of c.args.overwrite) (First c.args.name.now c.args.formats c.args.overwrite c.args.rows) w c.rows.store c.args.disk.now c.rows.disk c.rows.rows c.in-Err-next.ensures.some (c.rows.invariant.led h start first w holds)

pub returns-in-Err-next-clause-went : goal.returns-in-Err-next-clause-went
returns-in-Err-next-clause-went g c = load_short g.D.Disk c.args.store.now c.rows.store c.args.disk.now c.rows.disk c.requires.none c.rows.invariant.out

pub returns-in-Err-put_next-clause-led : goal.returns-in-Err-put_next-clause-led
returns-in-Err-put_next-clause-led g c h start first w holds =
    let D = g.D.Disk in
    let mid = same_honest D c.args.disk.now c.rows.disk c.rows.invariant.out.disk h in
    let so_far = c.rows.invariant.led h start first w holds in
    let led = rows_next D start first c.args.name.now (demand_of c.args.overwrite) (First c.args.name.now c.args.formats c.args.overwrite c.args.rows) w c.rows.store c.args.disk.now c.rows.disk c.put_next.new.store c.put_next.new.disk (Err c.in-Err-put_next.refusal) c.rows.rows c.next.new.self (c.in-Ok-Some.key, c.in-Ok-Some.value)
    (row_taken c.in-Ok-Some.field-0 (c.in-Ok-Some.key, c.in-Ok-Some.value) c.rows.rows c.next.new.self c.in-Ok-Some.field-0-is c.in-Ok-Some.ensures.row) so_far
    (λ v held. c.in-Err-put_next.ensures.led c.next.new.self mid start first v held) in
    subst (λ (r : Refusal). LedBy D start first w c.put_next.new.store c.args.disk.now c.put_next.new.disk (First c.args.name.now c.args.formats c.args.overwrite c.args.rows) ClosesLoad (let x : Result (Unit {0}) Refusal = Err r in x))
    (sym (c.told_as.ensures.undamaged (c.in-Err-put_next.ensures.undamaged mid start first so_far.0 so_far.1))) led

pub returns-in-Err-put_next-clause-went : goal.returns-in-Err-put_next-clause-went
returns-in-Err-put_next-clause-went g c =
    let D = g.D.Disk in
    load_told D c.args.store.now c.put_next.new.store c.args.disk.now c.put_next.new.disk c.requires.none c.has_no_rows-is_new.result c.in-Err-put_next.refusal c.told_as.result
    (out_then D c.args.store.now c.rows.store c.put_next.new.store c.args.disk.now c.rows.disk c.put_next.new.disk (Err c.in-Err-put_next.refusal) c.rows.invariant.out c.in-Err-put_next.ensures.went)
    (λ old. went_then D c.args.store.now c.rows.store c.put_next.new.store c.args.disk.now c.rows.disk c.put_next.new.disk (Err c.in-Err-put_next.refusal) (c.rows.invariant.looked old) (c.in-Err-put_next.ensures.looked (c.is_due-due.ensures old)))
    c.told_as.ensures.new c.told_as.ensures.old c.told_as.ensures.fault
