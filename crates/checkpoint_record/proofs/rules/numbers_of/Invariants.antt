use Rattle.std.proofs.Common.{◌≡◌, length, take}
use Rattle.std.specs.Prelude.{vec_len, vec_capacity}
use Rattle.checkpoint_record.proofs.Numbers.{numbers}
use Rattle.checkpoint_record.proofs.rules.numbers_of.Given as goal

abbrev pub invariant-loop-table : goal.invariant-loop-table
invariant-loop-table l = record {
  room : vec_capacity l.numbers ≡ length l.tables;
  len : vec_len l.numbers ≡ l.table-index;
  items : l.numbers.items ≡ numbers (take l.table-index l.tables);
}
