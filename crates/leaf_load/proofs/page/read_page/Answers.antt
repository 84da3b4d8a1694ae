use Rattle.std.proofs.Common.{inl, inr, option_map, refl, List, ℕ}
use Rattle.std.specs.Borrow.{Bor}
use Rattle.device_leaf.proofs.Leaves.{found_spoilt}
use Rattle.recover_open.proofs.OneLeaf.{leaf_refused}
use Rattle.leaf_load.specs.Loads.{entry_of}
use Rattle.leaf_load.proofs.page.read_page.Goals as goal

pub returns-in-Err-clause-err : goal.returns-in-Err-clause-err
returns-in-Err-clause-err g c =
    let D = g.D.Disk in
    let link = c.args.link in
    leaf_refused _ _ (D.seen c.args.disk.now) link (entry_of c.args.low.now link) (option_map (λ (k : Bor (List ℕ)). k.now) c.args.high) c.in-Err.refusal refl
    (elim c.in-Err.ensures.err [
      | inl none ↦ inr (inl none)
      | inr rest ↦ elim rest [
        | inl fault ↦ inl fault
        | inr (found, is) ↦ inr (inr (found, is, λ h. found_spoilt (D.seen c.args.disk.now) link found c.requires (c.in-Err.ensures.corrupt h link.addr.offset link.addr.sum found is).2))
      ]
    ])
