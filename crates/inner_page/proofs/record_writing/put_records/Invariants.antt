use Rattle.std.proofs.Common.{◌≡◌, ◌++◌, take}
use Rattle.std.specs.List.{flat_map}
use Rattle.stored.specs.HistoryTree.{record_text}
use Rattle.inner_page.proofs.record_writing.put_records.Given as goal

abbrev pub invariant-loop-record : goal.invariant-loop-record
invariant-loop-record l = l.out ≡ l.fn.out ++ flat_map record_text (take l.record-index l.records)
