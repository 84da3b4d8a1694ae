use Rattle.std.proofs.Common.{◌≡◌, length, take}
use Rattle.std.specs.List.{flat_map}
use Rattle.stored.specs.HistoryTree.{history_entry_text}
use Rattle.inner_page.proofs.history_writing.entries_len.Given as goal

abbrev pub invariant-loop-entry : goal.invariant-loop-entry
invariant-loop-entry l = l.len ≡ length (flat_map history_entry_text (take l.entry-index l.entries))
