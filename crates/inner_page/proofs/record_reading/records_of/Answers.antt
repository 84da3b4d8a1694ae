use Rattle.std.proofs.Common.{◌+◌, ◌-◌, ◌++◌, ◌∷◌, [], List, None, Some, ap, ◌∙◌, arith}
use Rattle.std.specs.Prelude.{option_map}
use Rattle.le_codec.specs.Combine.{with_front}
use Rattle.le_codec.proofs.Chains.{goes_on, ends, is_done}
use Rattle.stored.specs.HistoryTree.{HistoryRecord, Mark}
use Rattle.inner_page.specs.Marks.{mark_seen}
use Rattle.inner_page.specs.RecordReading.{record_seen, record_behind_at, mark_in, records_at}
use Rattle.inner_page.proofs.record_reading.records_of.Goals as goal

pub returns-in_default : goal.returns-in_default
returns-in_default c =
    ends record_behind_at mark_in c.loop.records.items c.args.count c.loop.counter (option_map mark_seen c.loop.before) c.loop.reader (records_at c.args.count None c.args.reader.now) c.loop-test.true c.in_default.ensures c.loop.invariant.read

pub loop-preserved : goal.loop-preserved
loop-preserved c = record {
  room = c.push_reserved.ensures.capacity ∙ c.loop.invariant.room;
  len = omega (arith, c.push_reserved.ensures.len, c.loop.invariant.len);
  read =
      ap (λ (l : List HistoryRecord). with_front l (records_at (c.args.count - (c.loop.counter + 1)) (Some (mark_seen c.mark_of.result)) c.next_record.new.reader)) (c.push_reserved.ensures.items ∙ ap (λ (r : HistoryRecord). c.loop.records.items ++ r ∷ []) c.in_ok-owned.ensures)
      ∙ ap (λ (m : Mark). with_front (c.loop.records.items ++ record_seen c.in-Some.lent ∷ []) (records_at (c.args.count - (c.loop.counter + 1)) (Some m) c.next_record.new.reader)) c.mark_of.ensures
      ∙ goes_on record_behind_at mark_in c.loop.records.items c.args.count c.loop.counter (option_map mark_seen c.loop.before) c.loop.reader (record_seen c.in-Some.lent) c.next_record.new.reader (records_at c.args.count None c.args.reader.now) c.loop-test.true c.in-Some.ensures c.loop.invariant.read;
}

pub returns : goal.returns
returns c =
    is_done record_behind_at mark_in c.loop.records.items c.args.count c.loop.counter (option_map mark_seen c.loop.before) c.loop.reader (records_at c.args.count None c.args.reader.now) c.loop-test.false c.loop.invariant.read
