use Rattle.std.proofs.Common.{◌≡◌, drop}
use Rattle.std.specs.List.{list_all}
use Rattle.checkpoint_record.specs.Rules.{table_keeps}
use Rattle.checkpoint_record.proofs.rules.each_keeps.Given as goal

abbrev pub invariant-loop-table : goal.invariant-loop-table
invariant-loop-table l = list_all (table_keeps l.next) (drop l.table-index l.tables) ≡ list_all (table_keeps l.next) l.tables
