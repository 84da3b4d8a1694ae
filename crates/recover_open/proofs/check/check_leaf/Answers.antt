use Rattle.std.proofs.Common.{inl, inr, ap}
use Rattle.device_leaf.proofs.Leaves.{found_spoilt}
use Rattle.device_leaf.proofs.Opens.{ok_map, err_map}
use Rattle.stored.specs.TableTree.{Entry, first_key}
use Rattle.recover_open.proofs.OneLeaf.{leaf_refused}
use Rattle.recover_open.proofs.Checks.{leaf_there, block_refused}
use Rattle.recover_open.proofs.check.check_leaf.Goals as goal

pub returns-in-Err-clause-err : goal.returns-in-Err-clause-err
returns-in-Err-clause-err g c =
    let D = g.D.Disk in
    let link = c.entry.inside.link in
    leaf_refused _ _ (D.seen c.args.disk.now) link c.args.entry.now (first_key c.args.others.now) c.in-Err.refusal (ap (λ (x : Entry). x.link) c.entry.view_is)
    (elim c.in-Err.ensures.err [
      | inl none ↦ inr (inl none)
      | inr rest ↦ elim rest [
        | inl fault ↦ inl fault
        | inr (found, is) ↦ inr (inr (found, is, λ h. found_spoilt (D.seen c.args.disk.now) link found c.if-link-eq0.false (c.in-Err.ensures.corrupt h link.addr.offset link.addr.sum found is).2))
      ]
    ])

pub returns-in-Ok-clause-ok : goal.returns-in-Ok-clause-ok
returns-in-Ok-clause-ok g c h =
    ok_map c.rows_in.result c.rows_in.ensures.ok (λ n spells. leaf_there (g.D.Disk.seen c.args.disk.now) c.in-Ok.block.items c.entry.inside.link c.args.entry.now (first_key c.args.others.now) (ap (λ (x : Entry). x.link) c.entry.view_is) c.if-link-eq0.false n (c.in-Ok.ensures.bytes h) spells)

pub returns-in-Ok-clause-err : goal.returns-in-Ok-clause-err
returns-in-Ok-clause-err g c =
    err_map c.rows_in.result c.rows_in.ensures.err (λ r why. block_refused (g.D.Disk.seen c.args.disk.now) c.in-Ok.block.items c.entry.inside.link c.args.entry.now (first_key c.args.others.now) (ap (λ (x : Entry). x.link) c.entry.view_is) c.if-link-eq0.false _ _ r (λ h. c.in-Ok.ensures.bytes h) why)
