use Rattle.std.proofs.Common.{◌≡◌, ◌-◌}
use Rattle.std.specs.Prelude.{vec_len, vec_capacity}
use Rattle.std.specs.Int.{w64}
use Rattle.le_codec.specs.Fields.{number_at}
use Rattle.le_codec.specs.Combine.{many_at, with_front}
use Rattle.checkpoint_record.proofs.reading.ids_of.Given as goal

abbrev pub invariant-loop : goal.invariant-loop
invariant-loop l = record {
  room : vec_capacity l.ids ≡ l.count;
  len : vec_len l.ids ≡ l.counter;
  read : with_front l.ids.items (many_at (number_at w64) (l.count - l.counter) l.reader) ≡ many_at (number_at w64) l.count l.fn.reader;
}
