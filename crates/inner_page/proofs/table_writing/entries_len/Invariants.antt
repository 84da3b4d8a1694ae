use Rattle.std.proofs.Common.{◌≡◌, length, take}
use Rattle.std.specs.List.{flat_map}
use Rattle.stored.specs.TableTree.{entry_text}
use Rattle.inner_page.proofs.table_writing.entries_len.Given as goal

abbrev pub invariant-loop-entry : goal.invariant-loop-entry
invariant-loop-entry l = l.len ≡ length (flat_map entry_text (take l.entry-index l.entries))
