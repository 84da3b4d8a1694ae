use Rattle.std.proofs.Common.{◌≡◌, ◌++◌, List}
use Rattle.stored.specs.HistoryTree.{HistoryRecord}
use Rattle.device_read.specs.Newest.{newest_behind, newest_in}
use Rattle.device_read.proofs.newest.newest_in.Given as goal

abbrev pub invariant-loop-of : goal.invariant-loop-of
invariant-loop-of l = (rest : List HistoryRecord) → l.newest.items ++ newest_behind l.last rest ≡ newest_in (l.yielded ++ rest)
