use Rattle.std.proofs.Common.{◌≡◌, length, take}
use Rattle.std.specs.List.{flat_map}
use Rattle.stored.specs.Records.{table_text}
use Rattle.checkpoint_record.proofs.writing.tables_len.Given as goal

abbrev pub invariant-loop-table : goal.invariant-loop-table
invariant-loop-table l = l.len ≡ length (flat_map table_text (take l.table-index l.tables))
