use Rattle.std.proofs.Common.{inl, inr, refl, subst, sym}
use Rattle.engine.specs.declared.turning.EvictStage.{EvictStage}
use Rattle.engine.specs.declared.turning.EvictStage.TheVariants.{Lock}
use Rattle.engine.proofs.Lockers.{behind-all}
use Rattle.engine_store.specs.declared.evict_steps.EvictTurn.TheVariants.{On}
use Rattle.engine_store.specs.EvictSteps.{LeavesFewer, stage_left}
use Rattle.engine_store.proofs.EvictTurns.{lock_fewer}
use Rattle.engine_store.proofs.store.Store.lock.Goals as goal

pub returns-then-not-is_at-clause-sees : goal.returns-then-not-is_at-clause-sees
returns-then-not-is_at-clause-sees c = λ number name key w stands. inr (inr (refl, inl (c.is_at.ensures.no c.if-not-is_at.true)))

pub returns-in-Some-clause-sees : goal.returns-in-Some-clause-sees
returns-in-Some-clause-sees c = λ number name key w stands. inr (inr (refl, inr (_, c.in-Some.ensures.some.1)))

pub returns-in-None-clause-sees : goal.returns-in-None-clause-sees
returns-in-None-clause-sees c = λ number name key w stands. (c.is_at.ensures.yes c.if-not-is_at.false, λ other locks. c.in-None.ensures.none refl other (behind-all c.args.evicting.now other c.args.target.frame c.args.target.word locks) locks, c.scan_from.ensures)

pub returns-in-None-clause-fewer : goal.returns-in-None-clause-fewer
returns-in-None-clause-fewer c = subst (λ (next : EvictStage). LeavesFewer c.args.self.now.engine (stage_left c.args.self.now.engine (Lock c.args.target)) (On next)) (sym c.scan_from.ensures) (lock_fewer c.args.self.now.engine c.args.target)
