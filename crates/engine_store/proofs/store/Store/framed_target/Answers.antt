use Rattle.std.proofs.Common.{◌∙◌, refl, sym}
use Rattle.engine_store.proofs.EvictTurns.{some_is, target_out}
use Rattle.engine_store.proofs.store.Store.framed_target.Goals as goal

pub returns-in-None-clause-none : goal.returns-in-None-clause-none
returns-in-None-clause-none c = λ is w stands. c.in-None.ensures.none refl w stands

pub returns-in-Some-clause-none : goal.returns-in-Some-clause-none
returns-in-Some-clause-none c = λ is w stands. target_out c.args.self.now.engine w.machine c.args.table.now c.args.key.now c.in-Some.leaf (c.in-Some.ensures.some w stands) (sym c.target.ensures ∙ is)

pub returns-in-Some-clause-some : goal.returns-in-Some-clause-some
returns-in-Some-clause-some c = some_is c.target.result (λ target is. λ w stands. (c.in-Some.leaf, c.in-Some.ensures.some w stands, sym c.target.ensures ∙ is))
