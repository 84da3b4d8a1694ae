use Rattle.std.proofs.Common.{◌≡◌, ◌≤◌, IsTrue, ℕ, List, length}
use Rattle.disk_model.specs.Crash.{Looked}
use Rattle.row_page.specs.Rows.{Row}
use Rattle.device_read.specs.Readers.{HasPages, leaf_count}
use Rattle.device_read.specs.Rows.{put_rows}
use Rattle.device_read.specs.Spoilt.{IsSpoiltFrom}
use Rattle.wt_tool.specs.Dumps.{way_of}
use Rattle.wt_tool.specs.Pages.{IsLeft, along}
use Rattle.wt_tool.proofs.Dumping.{so_far}
use Rattle.wt_tool.proofs.dump.print_leaves.Given as goal

abbrev pub invariant-loop-passed : goal.invariant-loop-passed
invariant-loop-passed g l = record {
  later : g.K.Sink.fault_count l.fn.out ≤ g.K.Sink.fault_count l.out;
  looked : Looked g.D.Disk l.fn.disk l.disk;
  home : g.D.Disk.home l.disk ≡ g.D.Disk.home l.fn.disk;
  left : IsTrue (g.D.Disk.honest l.fn.disk) → (whole : List ℕ) → IsSpoiltFrom whole (g.D.Disk.seen l.fn.disk) → (pages : List (List Row)) → HasPages whole l.reader l.place pages → length pages ≡ leaf_count l.reader l.place
      → IsLeft (g.K.Sink.written l.fn.out) (g.K.Sink.written l.out) l.text.items (so_far (λ page. put_rows (along (way_of l.manner.reverse) page)) l.manner.form (along (way_of l.manner.reverse) pages) l.fn.head.items l.passed);
}
