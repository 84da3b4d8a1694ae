use Rattle.std.proofs.Common.{◌≡◌, ℕ, sym, subst}
use Rattle.ordered_groups.specs.Groups.{entries}
use Rattle.ordered_groups.specs.Places.{rank, PartsAt}
use Rattle.leaf_chains.specs.Order.{key_order, not_above}
use Rattle.leaf_chains.proofs.Index.{place_within, rises}
use Rattle.leaf_chains.proofs.Neighbours.{parts_above_gap, parts_behind_key}
use Rattle.leaf_chains.proofs.places.gap_above.Goals as goal

pub returns-in-Ok-clause-parts : goal.returns-in-Ok-clause-parts
returns-in-Ok-clause-parts c =
    let slots = c.args.slots.now in
    let gs = c.args.order.now in
    let key = c.args.key.now in
    let p = c.in-Ok.place in
    subst (λ (n : ℕ). PartsAt (λ i. not_above (key_order slots key i)) (entries gs) n) (sym c.gap_behind.ensures.rank)
    (parts_behind_key slots (entries gs) key (rank gs p) c.requires.index (place_within gs p c.in-Ok.ensures.place) c.in-Ok.ensures.found)

pub returns-in-Err-clause-parts : goal.returns-in-Err-clause-parts
returns-in-Err-clause-parts c =
    let slots = c.args.slots.now in
    let gs = c.args.order.now in
    let key = c.args.key.now in
    parts_above_gap slots (entries gs) key (rank gs c.in-Err.gap) (c.in-Err.ensures.found (rises slots (entries gs) key c.requires.index))
