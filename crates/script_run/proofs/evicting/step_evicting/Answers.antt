use Rattle.std.proofs.Common.{◌∙◌, ap, refl, sym, subst}
use Rattle.std.specs.Prelude.{List, None, Option, slice_set}
use Rattle.engine.specs.declared.turning.Evicting.{Evicting}
use Rattle.engine.specs.Turning.{evicting_by, staged}
use Rattle.engine_store.specs.EvictSteps.{MayTurn}
use Rattle.engine_store.specs.declared.evict_steps.EvictTurn.{EvictTurn}
use Rattle.engine_store.specs.declared.evict_steps.EvictTurn.TheVariants.{On, Ended}
use Rattle.script_text.specs.declared.line.Line.TheVariants.{Step}
use Rattle.script_run.specs.Runs.{IsTold}
use Rattle.script_run.specs.declared.kept.Kept.{Kept}
use Rattle.script_run.proofs.EvictingLines.{end_told, more_faults_none, turn_told, ended_faults}
use Rattle.script_run.proofs.evicting.step_evicting.Goals as goal

pub returns-in-On-clause-replies : goal.returns-in-On-clause-replies
returns-in-On-clause-replies g c = λ honest first s at same who is there.
    let turns = subst (λ (t : EvictTurn). MayTurn g.D.Disk c.args.store.now c.evict_step.new.self c.args.disk.now c.evict_step.new.disk c.args.kept.now.evicting c.args.number (evicting_by c.args.kept.now.evicting c.args.number) t) c.in-On.is c.evict_step.ensures.turns in
    subst (λ (k : Kept). IsTold g.D.Disk first (Step who) s c.evict_step.new.self c.evict_step.new.disk k c.more.result)
    (ap (λ (k : Kept). let moved : Kept = record k { evicting = staged k.evicting c.args.number c.in-On.stage } in moved) same ∙ ap (λ (l : List (Option Evicting)). let moved : Kept = record c.args.kept.now { evicting = l } in moved) (sym c.put_stage.ensures))
    (turn_told g.D.Disk first s c.args.store.now c.evict_step.new.self c.args.disk.now c.evict_step.new.disk at c.more.result c.evict_step.ensures.frames c.evict_step.ensures.running c.args.number c.in-On.stage (evicting_by s.kept.evicting c.args.number) refl there who is
    (subst (λ (k : Kept). MayTurn g.D.Disk c.args.store.now c.evict_step.new.self c.args.disk.now c.evict_step.new.disk k.evicting c.args.number (evicting_by k.evicting c.args.number) (On c.in-On.stage)) (sym same) turns) c.more.ensures.reply)

pub returns-in-On-clause-told : goal.returns-in-On-clause-told
returns-in-On-clause-told g c = more_faults_none g.D.Disk c.args.store.now c.evict_step.new.self c.args.disk.now c.evict_step.new.disk c.more.result c.more.ensures.reply c.evict_step.ensures.told

pub returns-in-Ended-clause-replies : goal.returns-in-Ended-clause-replies
returns-in-Ended-clause-replies g c = λ honest first s at same who is there.
    let turns = subst (λ (t : EvictTurn). MayTurn g.D.Disk c.args.store.now c.evict_step.new.self c.args.disk.now c.evict_step.new.disk c.args.kept.now.evicting c.args.number (evicting_by c.args.kept.now.evicting c.args.number) t) c.in-Ended.is c.evict_step.ensures.turns in
    subst (λ (k : Kept). IsTold g.D.Disk first (Step who) s c.evict_step.new.self c.evict_step.new.disk k c.told_of.result)
    (ap (λ (k : Kept). let moved : Kept = record k { evicting = slice_set k.evicting c.args.number None } in moved) same ∙ ap (λ (l : List (Option Evicting)). let moved : Kept = record c.args.kept.now { evicting = l } in moved) (sym c.put_evicting.ensures))
    (end_told g.D.Disk first s c.args.store.now c.evict_step.new.self c.args.disk.now c.evict_step.new.disk at c.told_of.result c.evict_step.ensures.frames c.evict_step.ensures.running c.args.number honest c.in-Ended.result (evicting_by s.kept.evicting c.args.number) refl there who is
    (subst (λ (k : Kept). MayTurn g.D.Disk c.args.store.now c.evict_step.new.self c.args.disk.now c.evict_step.new.disk k.evicting c.args.number (evicting_by k.evicting c.args.number) (Ended c.in-Ended.result)) (sym same) turns) c.told_of.ensures.reply)

pub returns-in-Ended-clause-told : goal.returns-in-Ended-clause-told
returns-in-Ended-clause-told g c = ended_faults g.D.Disk c.args.store.now c.evict_step.new.self c.args.disk.now c.evict_step.new.disk c.in-Ended.result c.told_of.result c.told_of.ensures.reply c.in-Ended.ensures.fault c.evict_step.ensures.told
