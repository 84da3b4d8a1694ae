use Rattle.std.proofs.Common.{ℕ, Option, inr, subst}
use Rattle.evict_step.specs.Cuts.{TellsUnended}
use Rattle.engine_store.proofs.store.Store.written_by.Goals as goal

pub returns-in-Ok-None-clause-told : goal.returns-in-Ok-None-clause-told
returns-in-Ok-None-clause-told c = λ w st keeps. inr (keeps, subst (λ (told : Option ℕ). TellsUnended c.args.self.now.engine c.args.leaf told) c.in-Ok-None.field-0-is c.in-Ok-None.ensures w st)

pub returns-in-Ok-Some-clause-told : goal.returns-in-Ok-Some-clause-told
returns-in-Ok-Some-clause-told c = λ w st keeps. inr (subst (λ (told : Option ℕ). TellsUnended c.args.self.now.engine c.args.leaf told) c.in-Ok-Some.field-0-is c.in-Ok-Some.ensures w st)
