use Rattle.std.proofs.Common.{◌≡◌, ◌-◌}
use Rattle.std.specs.Prelude.{vec_len, vec_capacity}
use Rattle.le_codec.specs.Combine.{many_at, with_front}
use Rattle.stored.specs.Reading.{table_at}
use Rattle.checkpoint_record.proofs.reading.tables_of.Given as goal

abbrev pub invariant-loop : goal.invariant-loop
invariant-loop l = record {
  room : vec_capacity l.tables ≡ l.count;
  len : vec_len l.tables ≡ l.counter;
  read : with_front l.tables.items (many_at table_at (l.count - l.counter) l.reader) ≡ many_at table_at l.count l.fn.reader;
}
