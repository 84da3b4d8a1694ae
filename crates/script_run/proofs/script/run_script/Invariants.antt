use Rattle.std.proofs.Common.{◌≡◌, ◌≤◌, ◌+◌, ◌-◌, [], length}
use Rattle.std.specs.Prelude.{IsTrue, None, Some}
use Rattle.failure.specs.Counts.{Rose}
use Rattle.wt_io.specs.Streams.{AtEnd}
use Rattle.disk_model.specs.Crash.{SameDisk}
use Rattle.wt_code.specs.declared.refusals.Refusal.TheVariants.{DiskFault}
use Rattle.engine_world.specs.Worlds.{World}
use Rattle.engine_store.specs.Calls.{AreToldSo}
use Rattle.engine_store.specs.Full.{count_of}
use Rattle.engine_store.specs.Held.{IsHeld}
use Rattle.engine_store.specs.Opened.{IsReady}
use Rattle.engine_store.specs.Progress.{place_in}
use Rattle.script_run.specs.declared.script.TheConstants.{INPUT_MAX}
use Rattle.script_run.proofs.Scripting.{IsDone}
use Rattle.script_run.proofs.script.run_script.Given as goal

abbrev pub invariant-lines : goal.invariant-lines
invariant-lines g l = record {
  ended : IsTrue l.lines.ended → AtEnd (g.S.Source.left l.input);
  line : l.place.line ≤ l.place.used + 1;
  used : l.place.used ≤ INPUT_MAX + 1;
  reads : g.S.Source.fault_count l.fn.input ≤ g.S.Source.fault_count l.input;
  writes : g.K.Sink.fault_count l.fn.out ≤ g.K.Sink.fault_count l.out;
  ready : IsReady l.store;
  disk : SameDisk g.D.Disk l.fn.disk l.disk;
  told : length l.fn.store.engine.sessions ≡ 0 → AreToldSo g.D.Disk None l.fn.disk l.store.engine l.disk;
  met : length l.fn.store.engine.sessions ≡ 0 → l.place.met ≡ Some DiskFault → Rose (g.D.Disk.faults l.fn.disk) (g.D.Disk.faults l.disk);
  done : IsTrue (g.D.Disk.honest l.fn.disk) → (w : World) → IsHeld g.D.Disk l.fn.disk l.fn.store l.fn.disk w w.machine.completed []
      → IsDone g.D.Disk l.fn.disk w (count_of l.fn.store.frames) (place_in l.fn.store.running) g.S.Source g.K.Sink l.fn.input l.input l.fn.out l.out l.lines l.place l.store l.disk;
}

abbrev pub decreases-lines : goal.decreases-lines
decreases-lines g l = (INPUT_MAX + 1) - l.place.used
