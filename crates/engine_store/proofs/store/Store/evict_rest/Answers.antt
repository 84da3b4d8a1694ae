use Rattle.std.proofs.Common.{◌<◌, List, Option, refl, sym, subst}
use Rattle.engine.specs.declared.turning.Evicting.{Evicting}
use Rattle.engine.specs.Turning.{evicting_by}
use Rattle.engine_store.specs.declared.evict_steps.EvictTurn.{EvictTurn}
use Rattle.engine_store.specs.declared.evict_steps.EvictTurn.TheVariants.{On, Ended}
use Rattle.engine_store.specs.EvictSteps.{LeavesFewer, MayTurn, steps_left}
use Rattle.engine_store.proofs.EvictTurns.{RestSoFar, rest_ends, rest_fewer, rest_more, rest_none, told_same}
use Rattle.engine_store.proofs.store.Store.evict_rest.Goals as goal

pub steps-init : goal.steps-init
steps-init g c = rest_none c.args.self.now c.args.disk.now c.args.evicting.now c.args.number

pub steps-preserved : goal.steps-preserved
steps-preserved g c =
    subst (λ (l : List (Option Evicting)). RestSoFar c.args.self.now c.evict_step.new.self c.args.disk.now c.evict_step.new.disk c.args.evicting.now l c.args.number) (sym c.put_stage.ensures)
    (rest_more g.D.Disk c.args.self.now c.steps.self c.evict_step.new.self c.args.disk.now c.steps.disk c.evict_step.new.disk c.args.evicting.now c.steps.evicting c.args.number c.steps.invariant c.in-On.stage (evicting_by c.steps.evicting c.args.number) refl
    (subst (λ (t : EvictTurn). MayTurn g.D.Disk c.steps.self c.evict_step.new.self c.steps.disk c.evict_step.new.disk c.steps.evicting c.args.number (evicting_by c.steps.evicting c.args.number) t) c.in-On.is c.evict_step.ensures.turns))

pub steps-smaller : goal.steps-smaller
steps-smaller g c =
    subst (λ (l : List (Option Evicting)). steps_left c.evict_step.new.self.engine (evicting_by l c.args.number) < steps_left c.steps.self.engine (evicting_by c.steps.evicting c.args.number)) (sym c.put_stage.ensures)
    (rest_fewer g.D.Disk c.args.self.now c.steps.self c.evict_step.new.self c.args.disk.now c.steps.disk c.evict_step.new.disk c.args.evicting.now c.steps.evicting c.args.number c.steps.invariant c.in-On.stage (evicting_by c.steps.evicting c.args.number) refl
    (subst (λ (t : EvictTurn). MayTurn g.D.Disk c.steps.self c.evict_step.new.self c.steps.disk c.evict_step.new.disk c.steps.evicting c.args.number (evicting_by c.steps.evicting c.args.number) t) c.in-On.is c.evict_step.ensures.turns)
    (subst (λ (t : EvictTurn). LeavesFewer c.steps.self.engine (steps_left c.steps.self.engine (evicting_by c.steps.evicting c.args.number)) t) c.in-On.is c.evict_step.ensures.fewer))

pub returns-in-Ended-clause-ends : goal.returns-in-Ended-clause-ends
returns-in-Ended-clause-ends g c =
    rest_ends g.D.Disk c.args.self.now c.steps.self c.evict_step.new.self c.args.disk.now c.steps.disk c.evict_step.new.disk c.args.evicting.now c.steps.evicting c.args.number c.steps.invariant c.in-Ended.result
    (subst (λ (t : EvictTurn). MayTurn g.D.Disk c.steps.self c.evict_step.new.self c.steps.disk c.evict_step.new.disk c.steps.evicting c.args.number (evicting_by c.steps.evicting c.args.number) t) c.in-Ended.is c.evict_step.ensures.turns)

pub returns-in-Ended-clause-told : goal.returns-in-Ended-clause-told
returns-in-Ended-clause-told g c = told_same g.D.Disk c.args.self.now c.steps.self c.evict_step.new.self c.args.disk.now c.steps.disk c.evict_step.new.disk c.steps.invariant.same c.steps.invariant.here c.evict_step.ensures.told
