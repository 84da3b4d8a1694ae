use Rattle.ordered_groups.specs.Groups.{entries}
use Rattle.ordered_groups.specs.Places.{rank}
use Rattle.leaf_chains.proofs.Index.{place_within, rises}
use Rattle.leaf_chains.proofs.Neighbours.{parts_before_key, parts_below_gap}
use Rattle.leaf_chains.proofs.places.gap_below.Goals as goal

pub returns-in-Ok-clause-parts : goal.returns-in-Ok-clause-parts
returns-in-Ok-clause-parts c =
    let gs = c.args.order.now in
    let p = c.in-Ok.place in
    parts_before_key c.args.slots.now (entries gs) c.args.key.now (rank gs p) c.requires.index (place_within gs p c.in-Ok.ensures.place) c.in-Ok.ensures.found

pub returns-in-Err-clause-parts : goal.returns-in-Err-clause-parts
returns-in-Err-clause-parts c =
    let slots = c.args.slots.now in
    let gs = c.args.order.now in
    let key = c.args.key.now in
    parts_below_gap slots (entries gs) key (rank gs c.in-Err.gap) (c.in-Err.ensures.found (rises slots (entries gs) key c.requires.index))
