use Rattle.std.proofs.Common.{◌∙◌, Option, ap, sym}
use Rattle.std.specs.Prelude.{Some}
use Rattle.engine_store.specs.Progress.{has_left, left_of}
use Rattle.engine_store.specs.declared.progress.Progress.{Progress}
use Rattle.script_run.specs.declared.checkpointing.CheckpointStage.TheVariants.{Found}
use Rattle.script_run.specs.Checkpointing.{finds_leaf}
use Rattle.script_run.proofs.CheckpointLines.{kept_at, turns_found, turns_made}
use Rattle.script_run.proofs.EvictingLines.{more_faults_none, seen_at}
use Rattle.script_run.proofs.Telling.{same_told}
use Rattle.script_run.proofs.checkpointing.step_call.Goals as goal

pub returns-then-finds_leaf-clause-turns : goal.returns-then-finds_leaf-clause-turns
returns-then-finds_leaf-clause-turns g c = λ honest first s at same.
    let store = c.args.store.now in
    turns_found g.D.Disk first s store c.args.disk.now c.more.result c.args.call.number c.args.call.stage _ (seen_at g.D.Disk first s store store c.args.disk.now c.args.disk.now at c.more.result)
    (ap (λ (p : Option Progress). finds_leaf c.args.call.stage (has_left s.world.machine (left_of s.world.machine store.engine.hub.dir.leaves p))) (sym at.progress)
    ∙ (ap (finds_leaf c.args.call.stage) (sym (c.has_leaf_left.ensures c.args.disk.now honest first s.world s.first s.made at.held)) ∙ (sym c.finds_leaf.ensures ∙ c.if-finds_leaf.true)))
    at c.more.ensures.reply (kept_at s.kept c.args.kept.now c.args.call.number (Some Found) c.put_call.new.checkpointing same c.put_call.ensures)

pub returns-then-finds_leaf-clause-told : goal.returns-then-finds_leaf-clause-told
returns-then-finds_leaf-clause-told g c = more_faults_none g.D.Disk c.args.store.now c.args.store.now c.args.disk.now c.args.disk.now c.more.result c.more.ensures.reply (same_told g.D.Disk c.args.store.now c.args.disk.now)

pub returns-else-finds_leaf-clause-turns : goal.returns-else-finds_leaf-clause-turns
returns-else-finds_leaf-clause-turns g c = λ honest first s at same.
    let store = c.args.store.now in
    turns_made g.D.Disk first s c.end_call.new.store c.end_call.new.disk c.end_call.result c.args.call.number c.args.call.stage _ (seen_at g.D.Disk first s store store c.args.disk.now c.args.disk.now at c.end_call.result)
    (ap (λ (p : Option Progress). finds_leaf c.args.call.stage (has_left s.world.machine (left_of s.world.machine store.engine.hub.dir.leaves p))) (sym at.progress)
    ∙ (ap (finds_leaf c.args.call.stage) (sym (c.has_leaf_left.ensures c.args.disk.now honest first s.world s.first s.made at.held)) ∙ (sym c.finds_leaf.ensures ∙ c.if-finds_leaf.false)))
    (c.end_call.ensures.ends honest first s at same)
