use Rattle.std.proofs.Common.{◌≡◌, ◌∙◌, ℕ, suc, option_map, ap, sym, get_or, arith}
use Rattle.ordered_groups.specs.Groups.{entries}
use Rattle.ordered_groups.specs.Places.{rank}
use Rattle.tree_dir.specs.declared.leaf.Leaf.{Leaf}
use Rattle.tree_dir.specs.Leaves.{leaf_behind}
use Rattle.tree_dir.specs.Slots.{leaf_at, leaves_at}
use Rattle.tree_dir.proofs.Index.{place-within}
use Rattle.tree_dir.proofs.ViewLemmas.{behind-slot, view-last}
use Rattle.tree_dir.proofs.neighbours.id_behind.Goals as goal

pub returns-in_err-next : goal.returns-in_err-next
returns-in_err-next c =
    let slots = c.args.slots.now in
    let gs = c.args.order.now in
    let order = entries gs in
    let r = rank gs c.in_ok-place.place in
    let last = view-last slots order r c.requires.way c.requires.home (omega (arith, c.in_err-next.ensures)) in
    let none = sym (ap (λ (i : ℕ). leaf_behind (leaf_at slots i).id (leaves_at slots order)) c.in_ok-place.ensures.1) ∙ last in
    rw c.from_residual-in_err-next.ensures (sym (ap (option_map (λ (l : Leaf). l.id)) none))

pub returns : goal.returns
returns c =
    let slots = c.args.slots.now in
    let gs = c.args.order.now in
    let order = entries gs in
    let r = rank gs c.in_ok-place.place in
    let there = place-within gs c.in_ok-next.next c.in_ok-next.ensures.0 in
    let after : rank gs c.in_ok-next.next ≡ suc r = omega (arith, c.in_ok-next.ensures.1) in
    c.id_in.ensures
    ∙ ap (option_map (λ (l : Leaf). l.id))
    (behind-slot slots order c.args.slot r c.get.result c.table_in-table.result c.requires.way c.requires.home c.in_ok-place.ensures.1 (omega (arith, after, there)) (c.get.ensures 0 ∙ ap (λ (k : ℕ). get_or order k 0) after) c.table_in-table.ensures)
