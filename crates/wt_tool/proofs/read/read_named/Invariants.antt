use Rattle.std.proofs.Common.{◌≡◌, ◌⊎◌, ◌≤◌, ◌++◌, ℕ, IsTrue, List, map, take}
use Rattle.std.specs.List.{AllByRecursion}
use Rattle.failure.specs.Counts.{Rose}
use Rattle.disk_model.specs.Crash.{Looked}
use Rattle.kv_model.specs.Content.{Content}
use Rattle.stored.specs.Stored.{Reads}
use Rattle.wt_code.specs.declared.refusals.Refusal.{Refusal}
use Rattle.wt_io.specs.Streams.{Took}
use Rattle.device_read.specs.Spoilt.{IsSpoiltFrom}
use Rattle.wt_tool.specs.Damaged.{device_on}
use Rattle.wt_tool.specs.Parts.{IsSoOfLeaves}
use Rattle.wt_tool.specs.Top.{lines, first_status}
use Rattle.wt_tool.proofs.FreshRuns.{Goes}
use Rattle.wt_tool.proofs.read.read_named.Given as goal

abbrev pub invariant-loop-key : goal.invariant-loop-key
invariant-loop-key g l = record {
  printed : List ℕ;
  met : List Refusal;
  each : AllByRecursion (IsSoOfLeaves (IsTrue (g.D.Disk.honest l.fn.disk)) (g.D.Disk.seen l.fn.disk)) met;
  out : Took (g.K.Sink.written l.fn.out) (g.K.Sink.written l.out) printed;
  err : Took (g.E.Sink.written l.fn.err) (g.E.Sink.written l.err) (lines met) ⊎ Rose (g.E.Sink.fault_count l.fn.err) (g.E.Sink.fault_count l.err);
  status : l.status ≡ first_status met;
  small : (l.status ≡ 0) ⊎ (l.status ≡ 1);
  out_later : g.K.Sink.fault_count l.fn.out ≤ g.K.Sink.fault_count l.out;
  err_later : g.E.Sink.fault_count l.fn.err ≤ g.E.Sink.fault_count l.err;
  looked : Looked g.D.Disk l.fn.disk l.disk;
  home : g.D.Disk.home l.disk ≡ g.D.Disk.home l.fn.disk;
  -- what any keys behind those that were read give, behind what was given
  runs : IsTrue (g.D.Disk.honest l.fn.disk) → (whole : List ℕ) (c : Content) → Reads whole c → IsSpoiltFrom whole (g.D.Disk.seen l.fn.disk) → (n : ℕ) (more : List (List ℕ))
      → Goes (Rose (g.K.Sink.fault_count l.fn.out) n) c l.fn.name (map (λ s. s.now) (take l.key-index l.keys) ++ more) (device_on g.D.Disk whole l.fn.disk) more (device_on g.D.Disk whole l.disk) printed met;
}
