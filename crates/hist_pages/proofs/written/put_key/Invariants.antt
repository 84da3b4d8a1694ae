use Rattle.std.proofs.Common.{List, ◌++◌, take}
use Rattle.stored.specs.HistoryTree.{HistoryRecord}
use Rattle.hist_pages.specs.Making.{HaveRecords, records_of}
use Rattle.hist_pages.proofs.Sorting.{all_now}
use Rattle.hist_pages.proofs.written.put_key.Given as goal

abbrev pub invariant-loop-version : goal.invariant-loop-version
invariant-loop-version l = (records : List HistoryRecord) → HaveRecords l.fn.leaves records → HaveRecords l.leaves (records ++ records_of l.of (all_now (take l.version-index l.version-items)))
