use Rattle.std.proofs.Common.{◌≡◌, ◌∙◌, ℕ, suc, option_map, ap, sym, get_or, arith}
use Rattle.ordered_groups.specs.Groups.{entries}
use Rattle.ordered_groups.specs.Places.{rank}
use Rattle.tree_dir.specs.declared.leaf.Leaf.{Leaf}
use Rattle.tree_dir.specs.Leaves.{leaf_ahead}
use Rattle.tree_dir.specs.Slots.{leaf_at, leaves_at}
use Rattle.tree_dir.proofs.Index.{place-within}
use Rattle.tree_dir.proofs.ViewLemmas.{ahead-slot, view-first}
use Rattle.tree_dir.proofs.neighbours.id_ahead.Goals as goal

pub returns-in_err-before : goal.returns-in_err-before
returns-in_err-before c =
    let slots = c.args.slots.now in
    let gs = c.args.order.now in
    let order = entries gs in
    let r = rank gs c.in_ok-place.place in
    let first = view-first slots order r c.requires.way c.requires.home c.in_err-before.ensures (place-within gs c.in_ok-place.place c.in_ok-place.ensures.0) in
    let none = sym (ap (λ (i : ℕ). leaf_ahead (leaf_at slots i).id (leaves_at slots order)) c.in_ok-place.ensures.1) ∙ first in
    rw c.from_residual-in_err-before.ensures (sym (ap (option_map (λ (l : Leaf). l.id)) none))

pub returns : goal.returns
returns c =
    let slots = c.args.slots.now in
    let gs = c.args.order.now in
    let order = entries gs in
    let r = rank gs c.in_ok-before.before in
    let within = place-within gs c.in_ok-place.place c.in_ok-place.ensures.0 in
    let after : rank gs c.in_ok-place.place ≡ suc r = omega (arith, c.in_ok-before.ensures.1) in
    c.id_in.ensures
    ∙ ap (option_map (λ (l : Leaf). l.id))
    (ahead-slot slots order c.args.slot r c.get.result c.table_in-table.result c.requires.way c.requires.home (sym (ap (λ (k : ℕ). get_or order k 0) after) ∙ c.in_ok-place.ensures.1) (omega (arith, after, within)) (c.get.ensures 0) c.table_in-table.ensures)
