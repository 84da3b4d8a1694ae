use Rattle.std.proofs.Common.{ℕ, List, [], Option, false, ap, subst}
use Rattle.kv_model.specs.Calls.{Call}
use Rattle.kv_model.specs.Content.{start}
use Rattle.engine_world.specs.Systems.{first_world}
use Rattle.engine_world.specs.Worlds.{World}
use Rattle.engine_store.specs.declared.eviction.TheConstants.{FRAMES}
use Rattle.engine_store.specs.declared.progress.Progress.{Progress}
use Rattle.engine_store.specs.Full.{count_of}
use Rattle.engine_store.specs.Progress.{place_in}
use Rattle.script_run.specs.Scripts.{Outside, opened_world, outside}
use Rattle.script_run.specs.Runs.{IsRun}
use Rattle.wt_tool.specs.Top.{Streams, errors_of, streams_of}
use Rattle.wt_tool.proofs.Leaving.{first_held}
use Rattle.wt_tool.proofs.ScriptRuns.{end_so, four_rest, scripted, tells_end, tells_means}
use Rattle.wt_tool.proofs.script.script.Goals as goal

pub returns-clause-run : goal.returns-clause-run
returns-clause-run g c h content each =
    let D = g.D.Disk in
    let o : Outside = outside g.S.Source g.K.Sink c.args.input.now c.run_script-ran.new.input c.args.out.now c.run_script-ran.new.out in
    let w : Streams = streams_of g.S.Source g.K.Sink g.E.Sink c.args.input.now c.run_script-ran.new.input c.args.out.now c.run_script-ran.new.out c.args.err.now c.told-status.new.err in
    let s = c.args.store in
    let reads = each.0 _ (g.met.D.Disk.reads_an_image _ h) in
    let on = (c.requires.on h).reads content reads each.1 in
    let held = first_held D c.args.disk.now s on content each reads (λ d left. g.met.D.Disk.only_now _ d left) in
    let world = ap (λ (l : List (Option Call)). let v : World = record { machine = start content; sessions = []; systems = l; shelf = on.shelf; records = λ id key. []; again = λ session. false } in v) (four_rest s.engine.systems c.actors.ensures.systems) in
    scripted D o content on.shelf w c.args.disk.now c.run_script-ran.new.disk c.run_script-ran.new.store c.run_script-ran.result c.told-status.result
    (subst (λ (p : Option Progress). IsRun D o w.in_before w.in_now w.out_before w.out_now (opened_world (start content) on.shelf) c.args.disk.now c.run_script-ran.new.disk FRAMES p c.run_script-ran.new.store c.run_script-ran.result) (ap place_in on.running)
    (subst (λ (n : ℕ). IsRun D o w.in_before w.in_now w.out_before w.out_now (opened_world (start content) on.shelf) c.args.disk.now c.run_script-ran.new.disk n (place_in s.running) c.run_script-ran.new.store c.run_script-ran.result) (ap count_of (c.requires.on h).soft)
    (subst (λ (v : World). IsRun D o w.in_before w.in_now w.out_before w.out_now v c.args.disk.now c.run_script-ran.new.disk (count_of s.frames) (place_in s.running) c.run_script-ran.new.store c.run_script-ran.result) world
    (c.run_script-ran.ensures.run h (first_world content on.shelf (λ id key. []) s.engine) held))))
    c.told-status.ensures

pub returns-clause-told : goal.returns-clause-told
returns-clause-told g c = tells_end _ (errors_of g.E.Sink c.args.err.now c.told-status.new.err) c.run_script-ran.result c.told-status.result
    (end_so _ _ c.run_script-ran.result.end c.run_script-ran.ensures.damage) c.told-status.ensures

pub returns-clause-statuses : goal.returns-clause-statuses
returns-clause-statuses g c = (tells_means (errors_of g.E.Sink c.args.err.now c.told-status.new.err) c.run_script-ran.result.end c.run_script-ran.result.met c.told-status.result c.told-status.ensures).some

pub returns-clause-disk_fault : goal.returns-clause-disk_fault
returns-clause-disk_fault g c is = c.run_script-ran.ensures.fault c.requires.none ((tells_means (errors_of g.E.Sink c.args.err.now c.told-status.new.err) c.run_script-ran.result.end c.run_script-ran.result.met c.told-status.result c.told-status.ensures).disk is)

pub returns-clause-input_fault : goal.returns-clause-input_fault
returns-clause-input_fault g c is = c.run_script-ran.ensures.input ((tells_means (errors_of g.E.Sink c.args.err.now c.told-status.new.err) c.run_script-ran.result.end c.run_script-ran.result.met c.told-status.result c.told-status.ensures).input is)

pub returns-clause-output_fault : goal.returns-clause-output_fault
returns-clause-output_fault g c is = c.run_script-ran.ensures.output ((tells_means (errors_of g.E.Sink c.args.err.now c.told-status.new.err) c.run_script-ran.result.end c.run_script-ran.result.met c.told-status.result c.told-status.ensures).output is)
