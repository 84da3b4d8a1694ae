use Rattle.std.proofs.Common.{◌≡◌, ap, arith}
use Rattle.txn_table.specs.SessionData.{SessionData, is_unreleased, runs}
use Rattle.txn_table.proofs.TableLemmas.{call-rests, few-run}
use Rattle.txn_table.proofs.Stocks.{stocked}
use Rattle.txn_table.proofs.txns.Txns.begin.Goals as goal

pub begin-requires-clause-few : goal.begin-requires-clause-few
begin-requires-clause-few c = rw c.deref.ensures.value (few-run _ c.self.invariant.room)

pub invariant_of-self : goal.invariant_of-self
invariant_of-self c = stocked _ _ _ _ _ _ _ _ _ c.self.invariant (omega arith)
    (call-rests _ c.args.self.now c.args.session c.begin.new.self c.self.view_is c.self.invariant.room c.requires.open (let none : c.begin.new.self.id ≡ 0 = ap (λ (x : SessionData). x.id) c.begin.ensures in omega arith) (ap is_unreleased c.requires.idle) (ap runs c.begin.ensures))
