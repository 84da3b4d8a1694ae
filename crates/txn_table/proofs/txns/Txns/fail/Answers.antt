use Rattle.std.proofs.Common.{arith, ap, ◌∙◌, sym}
use Rattle.txn_table.specs.SessionData.{SessionData, is_unreleased}
use Rattle.txn_table.proofs.TableLemmas.{call-same}
use Rattle.txn_table.proofs.Stocks.{stocked}
use Rattle.txn_table.proofs.txns.Txns.fail.Goals as goal

pub invariant_of-self : goal.invariant_of-self
invariant_of-self c = stocked _ _ _ _ _ _ _ _ _ c.self.invariant (omega arith)
    (call-same _ c.args.self.now c.args.session c.index_mut-state.result.now c.set_phase.new.self c.self.view_is c.self.invariant.room c.requires.open c.index_mut-state.ensures.value (ap (λ (x : SessionData). x.id) c.set_phase.ensures)
    (λ same. ap (λ (x : SessionData). is_unreleased x.phase) c.set_phase.ensures ∙ sym (ap is_unreleased (same ∙ c.requires.running))))
