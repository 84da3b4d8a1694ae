use Rattle.std.proofs.Common.{◌≡◌, ◌∷◌, ◌∙◌, ℕ, List, ap, sym, subst}
use Rattle.std.specs.List.{HoldsAt}
use Rattle.std.specs.declared.cmp.Ordering.TheVariants.{Equal}
use Rattle.ordered_groups.specs.Groups.{entries}
use Rattle.ordered_groups.specs.Places.{rank, PartsAt}
use Rattle.tree_dir.specs.Order.{rank_at, rank_order}
use Rattle.tree_dir.specs.Slots.{leaf_at}
use Rattle.tree_dir.proofs.Index.{found-itself, never-missed, place-within, rises}
use Rattle.tree_dir.proofs.SlotLemmas.{rank-leaf}
use Rattle.tree_dir.proofs.places.place_in.Goals as goal

pub returns-in-Ok : goal.returns-in-Ok
returns-in-Ok c =
    let slots = c.args.slots.now in
    let gs = c.args.order.now in
    let order = entries gs in
    let low = c.low_in.result.now in
    let same : c.table_in-table.result ∷ low ≡ rank_at slots c.args.slot =
    ap (λ (t : ℕ). t ∷ low) c.table_in-table.ensures ∙ (ap (λ (k : List ℕ). (leaf_at slots c.args.slot).table ∷ k) c.low_in.ensures ∙ sym (rank-leaf slots c.args.slot c.requires.within)) in
    let r = rank gs c.in-Ok.place in
    let equal = subst (λ (p : List ℕ). HoldsAt (λ y. rank_order slots p y ≡ Equal) order r) same c.in-Ok.ensures.found in
    (c.in-Ok.ensures.place, found-itself slots order r c.args.slot c.requires.way (place-within gs c.in-Ok.place c.in-Ok.ensures.place) equal c.requires.within)

pub returns-in-Err : goal.returns-in-Err
returns-in-Err c =
    let slots = c.args.slots.now in
    let gs = c.args.order.now in
    let order = entries gs in
    let low = c.low_in.result.now in
    let same : c.table_in-table.result ∷ low ≡ rank_at slots c.args.slot =
    ap (λ (t : ℕ). t ∷ low) c.table_in-table.ensures ∙ (ap (λ (k : List ℕ). (leaf_at slots c.args.slot).table ∷ k) c.low_in.ensures ∙ sym (rank-leaf slots c.args.slot c.requires.within)) in
    let r = rank gs c.in-Err.field-0 in
    let splits = subst (λ (p : List ℕ). PartsAt (rank_order slots p) order r) same c.in-Err.ensures.found in
    never-missed slots order c.args.slot r c.requires.way c.requires.within (splits (rises slots order (rank_at slots c.args.slot) c.requires.way))
