use Rattle.std.proofs.Common.{inl, inr}
use Rattle.device_leaf.proofs.Leaves.{found_spoilt}
use Rattle.device_leaf.proofs.leaf.load.Goals as goal

pub returns-in-Err-clause-err : goal.returns-in-Err-clause-err
returns-in-Err-clause-err g c =
    let D = g.D.Disk in
    elim c.in-Err.ensures.err [
      | inl none ↦ inr (inl none)
      | inr rest ↦ elim rest [
        | inl fault ↦ inl fault
        | inr (found, is) ↦ inr (inr (found, is, λ h. found_spoilt (D.seen c.args.disk.now) c.args.link found c.if-link-eq0.false (c.in-Err.ensures.corrupt h c.args.link.addr.offset c.args.link.addr.sum found is).2))
      ]
    ]
