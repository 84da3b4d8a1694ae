use Rattle.std.proofs.Common.{refl, sym, subst}
use Rattle.std.specs.Prelude.{Option, None, Some, Err}
use Rattle.wt_code.specs.declared.refusals.Refusal.TheVariants.{Invalid}
use Rattle.wt_code.specs.declared.refusals.Invalid.TheVariants.{NoCall}
use Rattle.engine.specs.declared.turning.Evicting.{Evicting}
use Rattle.engine_store.specs.declared.evict_steps.EvictTurn.TheVariants.{Ended}
use Rattle.engine_store.specs.EvictSteps.{LeavesFewer, MayTurn, steps_left}
use Rattle.engine_store.proofs.store.Store.evict_step.Goals as goal

pub returns-in-None-clause-turns : goal.returns-in-None-clause-turns
returns-in-None-clause-turns g c =
    subst (λ (o : Option Evicting). MayTurn g.D.Disk c.args.self.now c.args.self.now c.args.disk.now c.args.disk.now c.args.evicting.now c.args.number o (Ended (Err (Invalid NoCall)))) (sym c.in-None.ensures.none) ((refl, refl), refl)

pub returns-in-Some-clause-turns : goal.returns-in-Some-clause-turns
returns-in-Some-clause-turns g c =
    subst (λ (o : Option Evicting). MayTurn g.D.Disk c.args.self.now c.turn_evicting.new.self c.args.disk.now c.turn_evicting.new.disk c.args.evicting.now c.args.number o c.turn_evicting.result) (sym c.in-Some.ensures.some) c.turn_evicting.ensures.turns

pub returns-in-Some-clause-fewer : goal.returns-in-Some-clause-fewer
returns-in-Some-clause-fewer g c =
    subst (λ (o : Option Evicting). LeavesFewer c.args.self.now.engine (steps_left c.args.self.now.engine o) c.turn_evicting.result) (sym c.in-Some.ensures.some) c.turn_evicting.ensures.fewer
