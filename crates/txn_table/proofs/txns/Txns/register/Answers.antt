use Rattle.std.proofs.Common.{arith, ap}
use Rattle.txn_table.specs.SessionData.{SessionData, is_unreleased}
use Rattle.txn_table.proofs.TableLemmas.{call-same, kept-same}
use Rattle.txn_table.proofs.Stocks.{stocked}
use Rattle.txn_table.proofs.txns.Txns.register.Goals as goal

pub invariant_of-self : goal.invariant_of-self
invariant_of-self c = stocked _ _ _ _ _ _ _ _ _ c.self.invariant (omega arith)
    (call-same _ c.args.self.now c.args.session c.index_mut-state.result.now c.add_written.new.self c.self.view_is c.self.invariant.room c.requires.open c.index_mut-state.ensures.value
    (kept-same c.add_written.result c.add_written.ensures.ok c.add_written.ensures.err (λ e. ap (λ (x : SessionData). x.id) e) (λ e. ap (λ (x : SessionData). x.id) e))
    (λ same. kept-same c.add_written.result c.add_written.ensures.ok c.add_written.ensures.err (λ e. ap (λ (x : SessionData). is_unreleased x.phase) e) (λ e. ap (λ (x : SessionData). is_unreleased x.phase) e)))
