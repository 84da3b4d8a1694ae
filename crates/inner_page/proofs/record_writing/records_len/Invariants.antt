use Rattle.std.proofs.Common.{◌≡◌, length, take}
use Rattle.std.specs.List.{flat_map}
use Rattle.stored.specs.HistoryTree.{record_text}
use Rattle.inner_page.proofs.record_writing.records_len.Given as goal

abbrev pub invariant-loop-record : goal.invariant-loop-record
invariant-loop-record l = l.len ≡ length (flat_map record_text (take l.record-index l.records))
