use Rattle.std.proofs.Common.{refl, subst, List, ℕ}
use Rattle.stored.specs.TableTree.{Entry}
use Rattle.recover_open.specs.Leaves.{RowsAre}
use Rattle.recover_open.proofs.Steps.{leaves_refused}
use Rattle.recover_open.proofs.TreeLeaves.{tree_is}
use Rattle.recover_open.proofs.trees.read_one.Goals as goal

pub returns-in-Err-clause-err : goal.returns-in-Err-clause-err
returns-in-Err-clause-err g c =
    let bytes = g.D.Disk.seen c.args.disk.now in
    leaves_refused _ _ _ _ bytes bytes c.args.root c.args.upper.entries.items c.deref.result.now c.args.upper.addrs.items c.in-Err.refusal c.in-Err.ensures.err
    (λ rose. rose) (λ h. h.0) refl c.deref.ensures.value (λ h. h.1)

pub returns-in-Ok-place_of-clause-ok : goal.returns-in-Ok-place_of-clause-ok
returns-in-Ok-place_of-clause-ok g c h inner =
    let bytes : List ℕ = g.D.Disk.seen c.args.disk.now in
    let upper = c.args.upper in
    let are : RowsAre bytes upper.entries.items c.in-Ok.rows = subst (λ (l : List Entry). RowsAre bytes l c.in-Ok.rows) c.deref.ensures.value (c.in-Ok.ensures.ok h) in
    tree_is bytes c.args.root upper.entries.items upper.addrs.items inner are.leaves are.are c.in-Ok-place_of.place c.in-Ok.rows are.joined c.in-Ok-place_of.ensures.root c.in-Ok-place_of.ensures.leaves c.in-Ok-place_of.ensures.addrs
