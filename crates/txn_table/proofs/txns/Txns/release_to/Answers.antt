use Rattle.std.proofs.Common.{ap, ◌∙◌}
use Rattle.txn_table.specs.SessionData.{SessionData, is_unreleased}
use Rattle.txn_table.specs.Tabled.{without}
use Rattle.txn_table.proofs.TableLemmas.{call-released}
use Rattle.txn_table.proofs.Stocks.{stocked}
use Rattle.txn_table.proofs.txns.Txns.release_to.Goals as goal

pub invariant_of-self : goal.invariant_of-self
invariant_of-self c = stocked _ _ _ _ _ _ _ _ _ c.self.invariant c.take_out.ensures.room
    (call-released _ c.args.self.now c.args.session c.index_mut-state.result.now c.set_phase.new.self c.take_out.new.ids.items c.self.view_is c.self.invariant.room c.requires.open c.index_mut-state.ensures.value (ap (λ (x : SessionData). x.id) c.set_phase.ensures) c.requires.unreleased
    (ap (λ (x : SessionData). is_unreleased x.phase) c.set_phase.ensures ∙ c.requires.released) (c.take_out.ensures.items ∙ ap (λ i. without i c.self.inside.running.items) c.id-id.ensures))
