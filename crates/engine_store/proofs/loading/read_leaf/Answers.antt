use Rattle.std.proofs.Common.{◌∙◌, List, ℕ, Some, ap, sym}
use Rattle.engine_store.proofs.BehindKeys.{behind_key, read_as, refuses_leaf}
use Rattle.engine_store.proofs.loading.read_leaf.Goals as goal

pub returns-in-Some-leaf-clause-ok : goal.returns-in-Some-leaf-clause-ok
returns-in-Some-leaf-clause-ok g c = λ honest.
    let low = behind_key c.args.leaves.now c.stands.ensures c.args.leaf c.in-Some-next_leaf.next c.in-Some-leaf.next.now c.in-Some-next_leaf.ensures c.in-Some-leaf.ensures in
    read_as c.args.leaves.now c.args.leaf c.in-Some.found.now c.low_of-low.result.now c.link_of-link.result (Some c.low_of.result.now) (sym c.in-Some.ensures) c.low_of-low.ensures c.link_of-link.ensures (ap (λ (k : List ℕ). Some k) c.low_of.ensures ∙ sym low)
    (g.D.Disk.seen c.args.disk.now) c.args.marks c.args.ids.now c.load_leaf-in-Some-leaf.result (c.load_leaf-in-Some-leaf.ensures.ok honest)

pub returns-in-Some-leaf-clause-err : goal.returns-in-Some-leaf-clause-err
returns-in-Some-leaf-clause-err g c =
    let low = behind_key c.args.leaves.now c.stands.ensures c.args.leaf c.in-Some-next_leaf.next c.in-Some-leaf.next.now c.in-Some-next_leaf.ensures c.in-Some-leaf.ensures in
    refuses_leaf c.args.leaves.now c.args.leaf c.in-Some.found.now c.low_of-low.result.now c.link_of-link.result (Some c.low_of.result.now) (sym c.in-Some.ensures) c.low_of-low.ensures c.link_of-link.ensures (ap (λ (k : List ℕ). Some k) c.low_of.ensures ∙ sym low)
    g.D.Disk c.args.disk.now c.load_leaf-in-Some-leaf.new.disk c.load_leaf-in-Some-leaf.result c.load_leaf-in-Some-leaf.ensures.err
