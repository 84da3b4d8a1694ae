use Rattle.std.proofs.Common.{◌≡◌, ◌∙◌, false, sym, true}
use Rattle.std.specs.Prelude.{nat_lt}
use Rattle.std.proofs.lemmas.Bool.{ltb-false, ltb-true}
use Rattle.engine_store.proofs.CheckpointSteps.{takes_next, takes_none}
use Rattle.engine_store.proofs.progress.Underway.take.Goals as goal

pub returns-then-not-has_left-clause-taken : goal.returns-then-not-has_left-clause-taken
returns-then-not-has_left-clause-taken c = λ w stands.
    let isnt : nat_lt c.args.self.now.progress.table c.args.self.now.checkpoint.tables ≡ false = sym c.has_left.ensures ∙ c.if-not-has_left.true in
    takes_none c.args.engine.now c.args.self.now (ltb-false c.args.self.now.progress.table c.args.self.now.checkpoint.tables isnt) w stands

pub returns-in-Ok-clause-taken : goal.returns-in-Ok-clause-taken
returns-in-Ok-clause-taken c = λ w stands.
    let is : nat_lt c.args.self.now.progress.table c.args.self.now.checkpoint.tables ≡ true = sym c.has_left.ensures ∙ c.if-not-has_left.false in
    takes_next c.args.engine.now c.args.self.now c.in-Ok.progress c.remains.result (ltb-true c.args.self.now.progress.table c.args.self.now.checkpoint.tables is) c.in-Ok.ensures c.remains.ensures w stands
