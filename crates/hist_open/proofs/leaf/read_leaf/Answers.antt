use Rattle.std.proofs.Common.{ap, IsTrue}
use Rattle.stored.specs.HistoryTree.{HistoryEntry, first_mark}
use Rattle.device_leaf.proofs.Opens.{ok_map, err_map}
use Rattle.hist_open.proofs.OneLeaf.{leaf_read, leaf_refused, read_refused}
use Rattle.hist_open.proofs.leaf.read_leaf.Goals as goal

pub returns-in-Err-clause-err : goal.returns-in-Err-clause-err
returns-in-Err-clause-err g c =
    let D = g.D.Disk in
    read_refused (IsTrue (D.honest c.args.disk.now)) (D.seen c.args.disk.now) (D.faults c.args.disk.now) (D.faults c.read_block.new.disk) c.entry.inside.link c.args.entry.now (first_mark c.args.others.now) c.in-Err.refusal
    (ap (λ (x : HistoryEntry). x.link) c.entry.view_is) c.if-link-eq0.false (λ h offset want found. c.in-Err.ensures.corrupt h offset want found) c.in-Err.ensures.err

pub returns-in-Ok-clause-ok : goal.returns-in-Ok-clause-ok
returns-in-Ok-clause-ok g c h =
    ok_map c.records_in.result c.records_in.ensures.ok
    (λ v of. leaf_read (g.D.Disk.seen c.args.disk.now) c.deref.result.now c.entry.inside.link c.args.entry.now (first_mark c.args.others.now) (ap (λ (x : HistoryEntry). x.link) c.entry.view_is) c.if-link-eq0.false c.in-Ok.block.items v.items c.deref.ensures.value (c.in-Ok.ensures.bytes h) of)

pub returns-in-Ok-clause-err : goal.returns-in-Ok-clause-err
returns-in-Ok-clause-err g c =
    err_map c.records_in.result c.records_in.ensures.err
    (λ r why. leaf_refused (g.D.Disk.seen c.args.disk.now) c.deref.result.now c.entry.inside.link c.args.entry.now (first_mark c.args.others.now) (ap (λ (x : HistoryEntry). x.link) c.entry.view_is) c.if-link-eq0.false _ _ c.in-Ok.block.items r c.deref.ensures.value (λ h. c.in-Ok.ensures.bytes h) why)
