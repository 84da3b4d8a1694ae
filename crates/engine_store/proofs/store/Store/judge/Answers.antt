use Rattle.std.proofs.Common.{inl, refl}
use Rattle.engine_store.proofs.EvictTurns.{kept_by_leaf}
use Rattle.engine_store.proofs.store.Store.judge.Goals as goal

pub returns-in-None-clause-sees : goal.returns-in-None-clause-sees
returns-in-None-clause-sees c = λ evicting number name key w stands. (c.in-None.ensures.none refl, refl)

pub returns-in-Some-clause-sees : goal.returns-in-Some-clause-sees
returns-in-Some-clause-sees c = λ evicting number name key w stands.
    kept_by_leaf c.args.self.now.engine w.machine evicting number name key c.args.target c.kept_by.result _ (c.kept_by.ensures.told w stands (inl c.in-Some.ensures.some))
