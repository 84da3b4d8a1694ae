use Rattle.std.proofs.Common.{◌∙◌, ap, arith, refl, sym}
use Rattle.std.proofs.lemmas.Bool.{false≢true}
use Rattle.std.specs.Prelude.{◌≡◌, [], None, Some}
use Rattle.disk_model.proofs.Crash.{same_disk_then}
use Rattle.wt_code.specs.declared.refusals.Refusal.TheVariants.{DiskFault, NoMemory}
use Rattle.script_run.specs.declared.script.End.TheVariants.{Stopped}
use Rattle.script_run.specs.declared.script.ScriptRun.{ScriptRun}
use Rattle.engine_store.specs.declared.frames.Frames.TheVariants.{Firm}
use Rattle.engine_store.specs.Full.{count_of}
use Rattle.engine_store.specs.Progress.{place_in}
use Rattle.script_run.specs.Lines.{Held}
use Rattle.script_run.proofs.Devices.{same_disk}
use Rattle.script_run.proofs.Telling.{told_none}
use Rattle.script_run.proofs.Scripting.{frames-held, more-done, none-done, none-met, none-run, none-told, rose-before, rose-either, rose-told, run-done}
use Rattle.script_run.proofs.script.run_script.Goals as goal

pub returns-in_default : goal.returns-in_default
returns-in_default g c =
    let told : ScriptRun = record { end = Stopped NoMemory; met = None } in
    record {
      run = λ honest w held.
          none-run g.D.Disk c.args.disk.now w (count_of c.args.store.now.frames) (place_in c.args.store.now.running) g.S.Source g.K.Sink c.args.input.now c.args.out.now (record c.args.store.now { frames = Firm c.count.result }) told refl refl
          (frames-held g.D.Disk c.args.disk.now c.args.disk.now c.args.store.now (Firm c.count.result) w w.machine.completed [] held);
      input = λ is. absurd cc;
      output = λ is. absurd cc;
      fault = λ none met. absurd (none-told met);
      damage = λ honest at want found is. absurd cc;
      disk = same_disk g.D.Disk c.args.disk.now;
    }

pub lines-init : goal.lines-init
lines-init g c =
    let place = c.first-place.ensures in
    record {
      ended = λ is. absurd (false≢true (sym (ap (λ (h : Held). h.ended) c.in-Ok.ensures) ∙ is));
      line = omega (arith, place.line, place.used);
      used = omega (arith, place.used);
      reads = omega arith;
      writes = omega arith;
      ready = record { run = c.requires.ready.run; trees = c.requires.ready.trees; low = c.requires.ready.low };
      disk = same_disk g.D.Disk c.args.disk.now;
      told = λ none. told_none g.D.Disk c.args.store.now.engine c.args.disk.now none;
      met = λ none met. absurd (none-met DiskFault (sym place.met ∙ met));
      done = λ honest w held.
          none-done g.D.Disk c.args.disk.now w (count_of c.args.store.now.frames) (place_in c.args.store.now.running) g.S.Source g.K.Sink c.args.input.now c.args.out.now c.in-Ok.lines c.first-place.result (record c.args.store.now { frames = Firm c.count.result }) (ap Firm c.count.ensures) refl (ap (λ (h : Held). h.behind) c.in-Ok.ensures) place.line place.used place.kept place.met
          (frames-held g.D.Disk c.args.disk.now c.args.disk.now c.args.store.now (Firm c.count.result) w w.machine.completed [] held);
    }

pub returns-in-Some : goal.returns-in-Some
returns-in-Some g c =
    let i = c.lines.invariant in
    let e = c.in-Some.ensures in
    let told : ScriptRun = record { end = c.in-Some.end; met = c.turn.new.place.met } in
    record {
      run = λ honest w held.
          let d = i.done honest w held in
          run-done g.D.Disk c.args.disk.now w (count_of c.args.store.now.frames) (place_in c.args.store.now.running) g.S.Source g.K.Sink c.args.input.now c.lines.input c.turn.new.input c.args.out.now c.lines.out c.turn.new.out c.lines.lines c.lines.place c.turn.new.place c.lines.store c.turn.new.store c.lines.disk c.turn.new.disk told
          i.reads i.writes d (e.made (i.disk.same ∙ honest) c.args.disk.now d.script d.at d.kept) refl;
      input = λ is. rose-before (g.S.Source.fault_count c.args.input.now) (g.S.Source.fault_count c.lines.input) (g.S.Source.fault_count c.turn.new.input) i.reads (e.input_fails is);
      output = λ is. rose-before (g.K.Sink.fault_count c.args.out.now) (g.K.Sink.fault_count c.lines.out) (g.K.Sink.fault_count c.turn.new.out) i.writes (e.output_fails is);
      fault = λ none met.
          let f = (e.told c.args.disk.now i.disk.later (i.told none)).0 in
          rose-told told (g.D.Disk.faults c.args.disk.now) (g.D.Disk.faults c.lines.disk) (g.D.Disk.faults c.turn.new.disk) c.lines.place.met c.turn.ensures.disk.later f.0 (i.met none) f.1 met;
      damage = λ honest at want found is. e.damage (i.disk.same ∙ honest) at want found is;
      disk = same_disk_then g.D.Disk c.args.disk.now c.lines.disk c.turn.new.disk i.disk c.turn.ensures.disk;
    }

pub lines-preserved : goal.lines-preserved
lines-preserved g c =
    let i = c.lines.invariant in
    let e = c.in-None.ensures in
    record {
      ended = e.end;
      line = omega (arith, i.line, e.moved.line, e.moved.more);
      used = e.moved.within;
      reads = omega (arith, i.reads, c.turn.ensures.input);
      writes = omega (arith, i.writes, c.turn.ensures.output);
      ready = c.turn.ensures.ready;
      disk = same_disk_then g.D.Disk c.args.disk.now c.lines.disk c.turn.new.disk i.disk c.turn.ensures.disk;
      told = λ none. (e.told c.args.disk.now i.disk.later (i.told none)).1;
      met = λ none met.
          rose-either (c.lines.place.met ≡ Some DiskFault) (g.D.Disk.faults c.args.disk.now) (g.D.Disk.faults c.lines.disk) (g.D.Disk.faults c.turn.new.disk) c.turn.ensures.disk.later (i.met none) ((e.told c.args.disk.now i.disk.later (i.told none)).0 met);
      done = λ honest w held.
          let d = i.done honest w held in
          more-done g.D.Disk c.args.disk.now w (count_of c.args.store.now.frames) (place_in c.args.store.now.running) g.S.Source g.K.Sink c.args.input.now c.lines.input c.turn.new.input c.args.out.now c.lines.out c.turn.new.out c.lines.lines c.turn.new.lines c.lines.place c.turn.new.place c.lines.store c.turn.new.store c.lines.disk c.turn.new.disk
          e.stays d (e.made (i.disk.same ∙ honest) c.args.disk.now d.script d.at d.kept);
    }
