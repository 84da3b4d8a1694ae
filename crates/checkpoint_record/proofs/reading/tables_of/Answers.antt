use Rattle.std.proofs.Common.{◌+◌, ◌-◌, ◌++◌, ◌∷◌, [], List, ap, ◌∙◌, arith}
use Rattle.le_codec.specs.Combine.{many_at, with_front}
use Rattle.stored.specs.Records.{TableRoot}
use Rattle.stored.specs.Reading.{table_at}
use Rattle.checkpoint_record.specs.Parts.{table_seen}
use Rattle.checkpoint_record.proofs.Many.{goes_on, ends, is_done}
use Rattle.checkpoint_record.proofs.reading.tables_of.Goals as goal

pub returns-in_default : goal.returns-in_default
returns-in_default c =
    ends table_at c.loop.tables.items c.args.count c.loop.counter c.loop.reader (many_at table_at c.args.count c.args.reader.now) c.loop-test.true c.in_default.ensures c.loop.invariant.read

pub loop-preserved : goal.loop-preserved
loop-preserved c = record {
  room = c.push_reserved.ensures.capacity ∙ c.loop.invariant.room;
  len = omega (arith, c.push_reserved.ensures.len, c.loop.invariant.len);
  read =
      ap (λ (l : List TableRoot). with_front l (many_at table_at (c.args.count - (c.loop.counter + 1)) c.lent_table.new.reader)) (c.push_reserved.ensures.items ∙ ap (λ (t : TableRoot). c.loop.tables.items ++ t ∷ []) c.in_ok-owned.ensures)
      ∙ goes_on table_at c.loop.tables.items c.args.count c.loop.counter c.loop.reader (table_seen c.in-Some.lent) c.lent_table.new.reader (many_at table_at c.args.count c.args.reader.now) c.loop-test.true c.in-Some.ensures c.loop.invariant.read;
}

pub returns : goal.returns
returns c = is_done table_at c.loop.tables.items c.args.count c.loop.counter c.loop.reader (many_at table_at c.args.count c.args.reader.now) c.loop-test.false c.loop.invariant.read
