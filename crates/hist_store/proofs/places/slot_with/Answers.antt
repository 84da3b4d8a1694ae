use Rattle.std.proofs.Common.{◌∷◌, sym}
use Rattle.ordered_groups.specs.Groups.{entries}
use Rattle.ordered_groups.specs.Places.{rank}
use Rattle.hist_store.proofs.Index.{found-slot, no-slot, place-within, rises}
use Rattle.hist_store.proofs.places.slot_with.Goals as goal

pub returns-in-Ok : goal.returns-in-Ok
returns-in-Ok c =
    let gs = c.args.order.now in
    let p = c.in-Ok.place in
    sym (found-slot c.args.slots.now (entries gs) c.args.table c.args.key.now (rank gs p) c.get.result c.requires (place-within gs p c.in-Ok.ensures.place) c.get.ensures c.in-Ok.ensures.found)

pub returns-in-Err : goal.returns-in-Err
returns-in-Err c =
    let gs = c.args.order.now in
    let slots = c.args.slots.now in
    let table = c.args.table in
    let key = c.args.key.now in
    sym (no-slot slots (entries gs) table key (rank gs c.in-Err.field-0) c.requires (c.in-Err.ensures.found (rises slots (entries gs) (table ∷ key) c.requires)))
