use Rattle.std.proofs.Common.{inl, refl}
use Rattle.engine_store.proofs.store.Store.ask.Goals as goal

pub returns-in-Err-clause-sees : goal.returns-in-Err-clause-sees
returns-in-Err-clause-sees c = λ evicting w stands. inl (c.in-Err.ensures.refused w stands)

pub returns-in-Ok-clause-sees : goal.returns-in-Ok-clause-sees
returns-in-Ok-clause-sees c = λ evicting w stands. ((c.in-Ok.ensures.goes w stands).up, refl)
