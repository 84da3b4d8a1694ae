use Rattle.std.proofs.Common.{ℕ, option_map, ap, sym, ◌∙◌, get_or}
use Rattle.std.specs.Prelude.{slice_get}
use Rattle.ordered_groups.specs.Groups.{entries}
use Rattle.ordered_groups.specs.Places.{rank}
use Rattle.tree_dir.specs.declared.leaf.Leaf.{Leaf}
use Rattle.tree_dir.specs.Slots.{if_of_table}
use Rattle.tree_dir.proofs.Index.{place-within}
use Rattle.tree_dir.proofs.LastLeaves.{last-gap, last-start, rises-tables}
use Rattle.tree_dir.proofs.SlotLemmas.{view-slot}
use Rattle.tree_dir.proofs.ViewLemmas.{of-slot}
use Rattle.tree_dir.proofs.neighbours.id_last.Goals as goal

pub returns-in_err-place : goal.returns-in_err-place
returns-in_err-place c =
    let slots = c.args.slots.now in
    let order = entries c.args.order.now in
    let parts = c.gap_behind-gap.ensures.parts (rises-tables slots order c.args.table c.requires) in
    let none = last-start slots order c.args.table (rank c.args.order.now c.gap_behind-gap.result) c.requires parts c.in_err-place.ensures in
    rw c.from_residual.ensures (sym (ap (option_map (λ (l : Leaf). l.id)) none))

pub returns : goal.returns
returns c =
    let slots = c.args.slots.now in
    let gs = c.args.order.now in
    let order = entries gs in
    let table = c.args.table in
    let parts = c.gap_behind-gap.ensures.parts (rises-tables slots order table c.requires) in
    let q = rank gs c.in_ok-place.place in
    let within = place-within gs c.in_ok-place.place c.in_ok-place.ensures.0 in
    let last = last-gap slots order table (rank gs c.gap_behind-gap.result) q c.requires parts c.in_ok-place.ensures.1 within in
    let there = of-slot slots table (get_or order q 0) (view-slot slots order q c.requires within) in
    c.id_in.ensures
    ∙ (ap (λ (i : ℕ). option_map (λ (l : Leaf). l.id) (if_of_table table (slice_get slots i))) (c.get.ensures 0)
    ∙ ap (option_map (λ (l : Leaf). l.id)) (there ∙ sym last))
