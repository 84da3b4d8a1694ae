use Rattle.std.proofs.Common.{◌∙◌, ap, sym, subst, List, option_map}
use Rattle.std.specs.Prelude.{slice_get}
use Rattle.kv_model.specs.Holds.{Descends}
use Rattle.kv_model.specs.Ordered.{Older}
use Rattle.hist_store.specs.declared.key_history.KeyHistory.{KeyHistory}
use Rattle.hist_store.specs.Slots.{slot_of}
use Rattle.hist_store.specs.Versions.{versions_of}
use Rattle.hist_store.proofs.ByKey.{descend-of, held, no-versions}
use Rattle.hist_store.proofs.Index.{read-versions}
use Rattle.hist_store.proofs.hist.Hist.versions_of.Goals as goal
use Rattle.hist_store.proofs.hist.Hist.versions_of.Goals.{After-from_residual, After-versions_in}

pub returns-in_err-slot-clause-lent : goal.returns-in_err-slot-clause-lent
returns-in_err-slot-clause-lent c =
    let table = c.args.table in
    let key = c.args.key.now in
    let here = ap (slot_of table key) (c.as_slice.ensures.value ∙ c.self.view_is) in
    let none = no-versions table key c.args.self.now (sym here ∙ (sym c.slot_with.ensures ∙ c.in_err-slot.was)) in
    rw c.from_residual.ensures none

pub returns-in_err-slot-clause-descends : goal.returns-in_err-slot-clause-descends
returns-in_err-slot-clause-descends c = subst (λ (xs : List KeyHistory). Descends Older (versions_of c.args.table c.args.key.now xs)) c.self.view_is (descend-of c.args.table c.args.key.now c.self.inside.slots.items c.self.invariant.1)

pub returns-clause-lent : goal.returns-clause-lent
returns-clause-lent c =
    let table = c.args.table in
    let key = c.args.key.now in
    let here = ap (slot_of table key) (c.as_slice.ensures.value ∙ c.self.view_is) in
    let there = held table key c.args.self.now c.in_ok-slot.slot (sym here ∙ (sym c.slot_with.ensures ∙ c.in_ok-slot.was)) in
    read-versions c.versions_in.result (versions_of table key c.args.self.now)
    (c.versions_in.ensures ∙ (ap (λ (xs : List KeyHistory). option_map (λ (h : KeyHistory). h.versions) (slice_get xs c.in_ok-slot.slot)) (c.as_slice-2.ensures.value ∙ c.self.view_is) ∙ there))

pub returns-clause-descends : goal.returns-clause-descends
returns-clause-descends c = subst (λ (xs : List KeyHistory). Descends Older (versions_of c.args.table c.args.key.now xs)) c.self.view_is (descend-of c.args.table c.args.key.now c.self.inside.slots.items c.self.invariant.1)
