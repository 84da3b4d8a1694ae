use Rattle.std.proofs.Common.{inl, refl}
use Rattle.engine_store.proofs.store.Store.find.Goals as goal

pub returns-in-Err-clause-sees : goal.returns-in-Err-clause-sees
returns-in-Err-clause-sees c = λ evicting w stands. inl (c.in-Err.ensures.refused w stands)

pub returns-in-None-clause-sees : goal.returns-in-None-clause-sees
returns-in-None-clause-sees c = λ evicting w stands. (c.in-Ok.ensures.goes w stands, c.in-None.ensures.none refl w stands)

pub returns-in-Some-clause-sees : goal.returns-in-Some-clause-sees
returns-in-Some-clause-sees c = λ evicting w stands. (c.in-Some.target, refl, c.in-Some.ensures.some w stands)
