use Rattle.std.proofs.Common.{◌≡◌, ap, ◌++◌, ◌∷◌, [], arith}
use Rattle.txn_table.specs.SessionData.{SessionData}
use Rattle.txn_table.proofs.TableLemmas.{call-drawn, id-fits}
use Rattle.txn_table.proofs.Stocks.{stocked-drawn}
use Rattle.txn_table.proofs.txns.Txns.draw_id.Goals as goal

pub invariant_of-self : goal.invariant_of-self
invariant_of-self c = stocked-drawn _ _ _ _ _ _ _ _ c.self.invariant (omega arith)
    (call-drawn _ c.args.self.now c.args.session c.index_mut-state.result.now c.set_id.new.self c.push_reserved.new.self.items c.self.view_is c.self.invariant.room c.requires.open c.index_mut-state.ensures.value c.requires.running c.requires.undrawn
    (ap (λ (x : SessionData). x.phase) c.set_id.ensures) (ap (λ (x : SessionData). x.id) c.set_id.ensures)
    (let more : c.push_reserved.new.self.items ≡ c.self.inside.running.items ++ c.self.inside.next ∷ [] = c.push_reserved.ensures.items in more))

pub push_reserved-requires : goal.push_reserved-requires
push_reserved-requires c = (let few = id-fits _ c.args.self.now c.args.session c.self.view_is c.self.invariant.room c.requires.open c.requires.undrawn in let enough = c.self.invariant.ids in omega arith)
