use Rattle.std.proofs.Common.{◌≡◌, ◌∙◌, ℕ, List, [], ◌∷◌, ◌++◌, ap, sym, subst}
use Rattle.std.specs.List.{HoldsAt}
use Rattle.std.specs.List.Sorted.{IsPartitionPoint}
use Rattle.std.specs.declared.cmp.Ordering.TheVariants.{Less, Equal, Greater}
use Rattle.kv_model.specs.Holds.{Descends}
use Rattle.kv_model.specs.Ordered.{Older}
use Rattle.ordered_groups.specs.Groups.{entries}
use Rattle.ordered_groups.specs.Places.{rank, PartsAt}
use Rattle.hist_store.specs.declared.key_history.KeyHistory.{KeyHistory}
use Rattle.hist_store.specs.Order.{rank_order, slot_key}
use Rattle.hist_store.specs.Versions.{added, with_version}
use Rattle.hist_store.proofs.Adding.{adds-descend}
use Rattle.hist_store.proofs.ByKey.{added-new, added-over, descend-changed, descend-pushed}
use Rattle.hist_store.proofs.Index.{found-slot, gap-within, no-slot, place-within, rises, way-changed}
use Rattle.hist_store.proofs.Pushing.{way-pushed}
use Rattle.hist_store.proofs.hist.Hist.add.Goals as goal

pub invariant_of-self-in-Ok : goal.invariant_of-self-in-Ok
invariant_of-self-in-Ok c =
    let slots = c.self.inside.slots.items in
    let change = with_version c.args.version in
    rw c.in_ok-add_in-in-Ok.ensures.added
    (way-changed c.get-slot.result change slots (entries c.self.inside.order) c.self.invariant.0, descend-changed c.get-slot.result change slots (adds-descend c.args.version) c.self.invariant.1)

pub returns-in_ok-add_in-in-Ok-clause-added : goal.returns-in_ok-add_in-in-Ok-clause-added
returns-in_ok-add_in-in-Ok-clause-added c =
    let slots = c.self.inside.slots.items in
    let gs = c.self.inside.order in
    let p = c.in-Ok.place in
    let table = c.args.table in
    let key = c.args.key.now in
    let equal = subst (λ (s : List KeyHistory). HoldsAt (λ y. rank_order s (table ∷ key) y ≡ Equal) (entries gs) (rank gs p)) c.as_slice.ensures.value c.in-Ok.ensures.found in
    let there = found-slot slots (entries gs) table key (rank gs p) c.get-slot.result c.self.invariant.0 (place-within gs p c.in-Ok.ensures.place) c.get-slot.ensures equal in
    c.in_ok-add_in-in-Ok.ensures.added ∙ (added-over table key c.args.version slots c.get-slot.result there ∙ ap (λ (s : List KeyHistory). added table key c.args.version s) c.self.view_is)

pub invariant_of-self-in-Err : goal.invariant_of-self-in-Err
invariant_of-self-in-Err c =
    let slots = c.self.inside.slots.items in
    let gs = c.self.inside.order in
    let r = rank gs c.in-Err.gap in
    let place = c.args.table ∷ c.args.key.now in
    let first = c.in_ok-first-in-Err.first in
    let splits = subst (λ (s : List KeyHistory). PartsAt (rank_order s place) (entries gs) r) c.as_slice.ensures.value c.in-Err.ensures.found in
    let parts = splits (rises slots (entries gs) place c.self.invariant.0) in
    let here = subst (λ (k : List ℕ). IsPartitionPoint (λ y. rank_order slots k y ≡ Less) (λ y. rank_order slots k y ≡ Greater) (entries gs) r) (sym (ap slot_key c.in_ok-first-in-Err.ensures)) parts in
    let one = subst (λ (h : KeyHistory). Descends Older h.versions) (sym c.in_ok-first-in-Err.ensures) ((λ y at. absurd at), tt) in
    rw (c.in_ok-add_slot-in-Err.ensures.slots, c.in_ok-add_slot-in-Err.ensures.named)
    (way-pushed slots (entries gs) r first c.self.invariant.0 (gap-within gs c.in-Err.gap c.in-Err.ensures.place) here, descend-pushed slots first c.self.invariant.1 one)

pub returns-in_ok-add_slot-in-Err-clause-added : goal.returns-in_ok-add_slot-in-Err-clause-added
returns-in_ok-add_slot-in-Err-clause-added c =
    let slots = c.self.inside.slots.items in
    let gs = c.self.inside.order in
    let r = rank gs c.in-Err.gap in
    let table = c.args.table in
    let key = c.args.key.now in
    let splits = subst (λ (s : List KeyHistory). PartsAt (rank_order s (table ∷ key)) (entries gs) r) c.as_slice.ensures.value c.in-Err.ensures.found in
    let new = no-slot slots (entries gs) table key r c.self.invariant.0 (splits (rises slots (entries gs) (table ∷ key) c.self.invariant.0)) in
    c.in_ok-add_slot-in-Err.ensures.slots
    ∙ (ap (λ (h : KeyHistory). slots ++ h ∷ []) c.in_ok-first-in-Err.ensures
    ∙ (added-new table key c.args.version slots new ∙ ap (λ (s : List KeyHistory). added table key c.args.version s) c.self.view_is))
