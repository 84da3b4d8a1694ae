use Rattle.std.proofs.Common.{sym, subst, List}
use Rattle.kv_model.specs.SweepLaws.{Swept}
use Rattle.ordered_groups.specs.Groups.{entries}
use Rattle.hist_store.specs.declared.key_history.KeyHistory.{KeyHistory}
use Rattle.hist_store.specs.Order.{IsWay}
use Rattle.hist_store.specs.Slots.{AreDescending}
use Rattle.hist_store.proofs.ByKey.{all-swept, descend-swept}
use Rattle.hist_store.proofs.Index.{way-swept}
use Rattle.hist_store.specs.Versions.{is_past, versions_of}
use Rattle.hist_store.proofs.hist.Hist.sweep.Goals as goal

pub invariant_of-self : goal.invariant_of-self
invariant_of-self c =
    let slots = c.self.inside.slots.items in
    let order = entries c.self.inside.order in
    subst (λ (xs : List KeyHistory). IsWay xs order × AreDescending xs) (sym c.sweep_all.ensures)
    (way-swept c.args.pin c.args.floor slots order c.self.invariant.0, descend-swept c.args.pin c.args.floor slots c.self.invariant.1)

pub returns-clause-swept : goal.returns-clause-swept
returns-clause-swept c table key =
    let slots = c.self.inside.slots.items in
    let swept = all-swept c.args.pin c.args.floor slots c.self.invariant.1 table key in
    subst (λ (xs : List KeyHistory). Swept (is_past c.args.pin c.args.floor) (versions_of table key xs) (versions_of table key c.sweep_all.new.slots.items)) c.self.view_is
    (subst (λ (xs : List KeyHistory). Swept (is_past c.args.pin c.args.floor) (versions_of table key slots) (versions_of table key xs)) (sym c.sweep_all.ensures) swept)
