use Rattle.std.proofs.Common.{◌≡◌, ◌++◌, take}
use Rattle.std.specs.List.{flat_map}
use Rattle.stored.specs.HistoryTree.{history_entry_text}
use Rattle.inner_page.proofs.history_writing.put_entries.Given as goal

abbrev pub invariant-loop-entry : goal.invariant-loop-entry
invariant-loop-entry l = l.out ≡ l.fn.out ++ flat_map history_entry_text (take l.entry-index l.entries)
