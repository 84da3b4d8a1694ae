use Rattle.std.proofs.Common.{◌≤◌}
use Rattle.device_read.specs.Lent.{lent_rows}
use Rattle.device_read.specs.Rows.{put_row}
use Rattle.wt_tool.specs.Dumps.{way_of}
use Rattle.wt_tool.specs.Pages.{IsLeft, along}
use Rattle.wt_tool.proofs.Dumping.{so_far}
use Rattle.wt_tool.proofs.dump.print_rows.Given as goal

abbrev pub invariant-loop-passed : goal.invariant-loop-passed
invariant-loop-passed g l = record {
  left : IsLeft (g.K.Sink.written l.fn.out) (g.K.Sink.written l.out) l.text.items (so_far put_row l.manner.form (along (way_of l.manner.reverse) (lent_rows l.page)) l.fn.text.items l.passed);
  later : g.K.Sink.fault_count l.fn.out ≤ g.K.Sink.fault_count l.out;
}
