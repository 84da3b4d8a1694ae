use Rattle.std.proofs.Common.{◌∙◌, ap, sym, subst}
use Rattle.std.specs.Prelude.{List, None, Option, slice_set}
use Rattle.engine.specs.declared.turning.Evicting.{Evicting}
use Rattle.engine.specs.Turning.{evicting_by}
use Rattle.engine_store.specs.EvictSteps.{EndsAs}
use Rattle.script_text.specs.declared.line.Line.TheVariants.{Finish}
use Rattle.script_run.specs.Runs.{IsTold}
use Rattle.script_run.specs.declared.kept.Kept.{Kept}
use Rattle.script_run.proofs.EvictingLines.{ended_faults, finish_told, the_one}
use Rattle.script_run.proofs.evicting.finish_evicting.Goals as goal

pub returns-clause-replies : goal.returns-clause-replies
returns-clause-replies g c = λ honest first s at same who is there.
    let one = the_one (evicting_by s.kept.evicting c.args.number) there in
    subst (λ (k : Kept). IsTold g.D.Disk first (Finish who) s c.evict_rest-result.new.self c.evict_rest-result.new.disk k c.told_of.result)
    (ap (λ (k : Kept). let moved : Kept = record k { evicting = slice_set c.evict_rest-result.new.evicting c.args.number None } in moved) same ∙ ap (λ (l : List (Option Evicting)). let moved : Kept = record c.args.kept.now { evicting = l } in moved) (sym c.put_evicting.ensures))
    (finish_told g.D.Disk first s c.args.store.now c.evict_rest-result.new.self c.args.disk.now c.evict_rest-result.new.disk at c.told_of.result c.evict_rest-result.ensures.frames c.evict_rest-result.ensures.running c.args.number honest c.evict_rest-result.result c.evict_rest-result.new.evicting one.0 one.1 who is
    (subst (λ (k : Kept). EndsAs g.D.Disk c.args.store.now c.evict_rest-result.new.self c.args.disk.now c.evict_rest-result.new.disk k.evicting c.evict_rest-result.new.evicting c.args.number c.evict_rest-result.result) (sym same) c.evict_rest-result.ensures.ends) c.told_of.ensures.reply)

pub returns-clause-told : goal.returns-clause-told
returns-clause-told g c = ended_faults g.D.Disk c.args.store.now c.evict_rest-result.new.self c.args.disk.now c.evict_rest-result.new.disk c.evict_rest-result.result c.told_of.result c.told_of.ensures.reply c.evict_rest-result.ensures.fault c.evict_rest-result.ensures.told
