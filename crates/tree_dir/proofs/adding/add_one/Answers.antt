use Rattle.std.proofs.Common.{◌≡◌, ◌∷◌, ℕ, List, subst, arith}
use Rattle.std.specs.Prelude.{vec_len}
use Rattle.ordered_groups.specs.Groups.{entries}
use Rattle.ordered_groups.specs.Places.{rank, PartsAt}
use Rattle.tree_dir.specs.declared.leaf.Leaf.{Leaf}
use Rattle.tree_dir.specs.Order.{rank_order}
use Rattle.tree_dir.proofs.Index.{gap-within, rises}
use Rattle.tree_dir.proofs.NewLeaves.{is-added}
use Rattle.tree_dir.proofs.adding.add_one.Goals as goal

pub returns-in_ok-add_slot-in-Err-clause-added : goal.returns-in_ok-add_slot-in-Err-clause-added
returns-in_ok-add_slot-in-Err-clause-added c =
    let slots = c.args.slots.now.items in
    let gs = c.args.order.now in
    let order = entries gs in
    let r = rank gs c.in-Err.gap in
    let low : c.as_bytes.result.now ≡ c.args.entry.key = cc in
    let place = c.args.table ∷ c.args.entry.key in
    let here = subst (λ (s : List Leaf). PartsAt (rank_order s (c.args.table ∷ c.as_bytes.result.now)) order r) c.deref.ensures.value c.in-Err.ensures.found in
    let splits = subst (λ (k : List ℕ). PartsAt (rank_order slots (c.args.table ∷ k)) order r) low here in
    is-added slots c.add_slot.new.slots.items order (entries c.add_slot.new.order) r c.args.table c.args.serial c.len-at.result (vec_len c.args.slots.now) c.args.entry c.requires.way (omega arith)
    (gap-within gs c.in-Err.gap c.in-Err.ensures.place) (splits (rises slots order place c.requires.way)) (omega arith) (omega arith)
    c.in_ok-add_slot-in-Err.ensures.slots c.in_ok-add_slot-in-Err.ensures.named
