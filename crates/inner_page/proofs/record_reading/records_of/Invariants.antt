use Rattle.std.proofs.Common.{◌≡◌, ◌-◌, None}
use Rattle.std.specs.Prelude.{vec_len, vec_capacity, option_map}
use Rattle.le_codec.specs.Combine.{with_front}
use Rattle.inner_page.specs.Marks.{mark_seen}
use Rattle.inner_page.specs.RecordReading.{records_at}
use Rattle.inner_page.proofs.record_reading.records_of.Given as goal

abbrev pub invariant-loop : goal.invariant-loop
invariant-loop l = record {
  room : vec_capacity l.records ≡ l.count;
  len : vec_len l.records ≡ l.counter;
  read : with_front l.records.items (records_at (l.count - l.counter) (option_map mark_seen l.before) l.reader) ≡ records_at l.count None l.fn.reader;
}
