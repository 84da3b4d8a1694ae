use Rattle.std.proofs.Common.{◌≡◌, ◌-◌, None}
use Rattle.std.specs.Prelude.{vec_len, vec_capacity, option_map}
use Rattle.le_codec.specs.Combine.{with_front}
use Rattle.inner_page.specs.Marks.{mark_seen}
use Rattle.inner_page.specs.HistoryReading.{history_entries_at}
use Rattle.inner_page.proofs.history_reading.entries_of.Given as goal

abbrev pub invariant-loop : goal.invariant-loop
invariant-loop l = record {
  room : vec_capacity l.entries ≡ l.count;
  len : vec_len l.entries ≡ l.counter;
  read : with_front l.entries.items (history_entries_at (l.count - l.counter) (option_map mark_seen l.before) l.reader) ≡ history_entries_at l.count None l.fn.reader;
}
