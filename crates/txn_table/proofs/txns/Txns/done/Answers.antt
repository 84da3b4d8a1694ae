use Rattle.std.proofs.Common.{arith, ap, sym, ◌∙◌}
use Rattle.txn_table.specs.SessionData.{SessionData, is_unreleased, runs}
use Rattle.txn_table.proofs.TableLemmas.{call-rests, phase-read, id-left}
use Rattle.txn_table.proofs.Stocks.{stocked}
use Rattle.txn_table.proofs.txns.Txns.done.Goals as goal

pub invariant_of-self : goal.invariant_of-self
invariant_of-self c = stocked _ _ _ _ _ _ _ _ _ c.self.invariant (omega arith)
    (call-rests _ c.args.self.now c.args.session c.set_phase.new.self c.self.view_is c.self.invariant.room c.requires.open
    (id-left _ c.args.self.now c.args.session c.index_mut-state.result.now c.set_phase.new.self c.self.view_is c.requires.open c.index_mut-state.ensures.value (ap (λ (x : SessionData). x.id) c.set_phase.ensures))
    (ap is_unreleased (sym (c.phase.ensures ∙ phase-read _ c.args.self.now c.args.session c.index_mut-state.result.now c.self.view_is c.requires.open c.index_mut-state.ensures.value) ∙ c.in-Resolving.is))
    (ap runs c.set_phase.ensures))
