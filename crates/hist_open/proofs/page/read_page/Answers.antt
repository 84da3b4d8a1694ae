use Rattle.std.proofs.Common.{inr, ◌∙◌, ap, arith, IsTrue}
use Rattle.failure.specs.Counts.{Rose}
use Rattle.wt_code.specs.declared.refusals.Refusal.TheVariants.{Corrupt}
use Rattle.stored.specs.HistoryTree.{HistoryEntry, first_mark}
use Rattle.device_leaf.proofs.Opens.{ok_map, err_map}
use Rattle.hist_open.proofs.OnePage.{page_size, same_sum, page_read, page_refused, read_refused}
use Rattle.hist_open.proofs.page.read_page.Goals as goal

pub returns-then-addr-ne-INNER_IMAGE_MAX-clause-err : goal.returns-then-addr-ne-INNER_IMAGE_MAX-clause-err
returns-then-addr-ne-INNER_IMAGE_MAX-clause-err g c =
    let e = c.args.entry.now in
    let next = first_mark c.args.others.now in
    let bytes = g.D.Disk.seen c.args.disk.now in
    inr (inr (
      e.link.addr.offset,
      e.link.addr.sum,
      e.link.addr.sum,
      c.spoilt.ensures ∙ ap (λ (x : HistoryEntry). Corrupt x.link.addr.offset x.link.addr.sum x.link.addr.sum) c.entry.view_is,
      λ h. same_sum bytes c.args.level e next (λ p is. omega (arith, page_size bytes c.args.level e next p is, ap (λ (x : HistoryEntry). x.link.addr.size) c.entry.view_is, c.if-addr-ne-INNER_IMAGE_MAX.true)),
    ))

pub returns-in-Err-clause-err : goal.returns-in-Err-clause-err
returns-in-Err-clause-err g c =
    let D = g.D.Disk in
    read_refused (IsTrue (D.honest c.args.disk.now)) (D.seen c.args.disk.now) (D.faults c.args.disk.now) (D.faults c.read_into.new.disk) c.args.level c.args.entry.now (first_mark c.args.others.now) c.entry.inside.link.addr c.in-Err.refusal
    (ap (λ (x : HistoryEntry). x.link.addr) c.entry.view_is) (λ h offset want found. c.in-Err.ensures.corrupt h offset want found) c.in-Err.ensures.err

pub returns-in-Ok-clause-ok : goal.returns-in-Ok-clause-ok
returns-in-Ok-clause-ok g c h =
    ok_map c.page_of.result c.page_of.ensures.ok
    (λ v of. page_read (g.D.Disk.seen c.args.disk.now) c.deref.result.now c.read_into.new.bytes.items c.args.level c.args.entry.now (first_mark c.args.others.now) c.entry.inside.link.addr v.items (ap (λ (x : HistoryEntry). x.link.addr) c.entry.view_is) c.deref.ensures.value (c.in-Ok.ensures.bytes h) of)

pub returns-in-Ok-clause-err : goal.returns-in-Ok-clause-err
returns-in-Ok-clause-err g c =
    let D = g.D.Disk in
    err_map c.page_of.result c.page_of.ensures.err
    (λ r why. page_refused (Rose (D.faults c.args.disk.now) (D.faults c.read_into.new.disk)) (IsTrue (D.honest c.args.disk.now)) (D.seen c.args.disk.now) c.deref.result.now c.read_into.new.bytes.items c.args.level c.args.entry.now (first_mark c.args.others.now) c.entry.inside.link.addr r (ap (λ (x : HistoryEntry). x.link.addr) c.entry.view_is) c.deref.ensures.value (λ h. c.in-Ok.ensures.bytes h) why)
