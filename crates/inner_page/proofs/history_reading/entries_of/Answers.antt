use Rattle.std.proofs.Common.{◌+◌, ◌-◌, ◌++◌, ◌∷◌, [], List, None, Some, ap, ◌∙◌, arith}
use Rattle.std.specs.Prelude.{option_map}
use Rattle.le_codec.specs.Combine.{with_front}
use Rattle.le_codec.proofs.Chains.{goes_on, ends, is_done}
use Rattle.stored.specs.HistoryTree.{HistoryEntry}
use Rattle.inner_page.specs.Marks.{mark_seen}
use Rattle.inner_page.specs.HistoryReading.{history_entry_seen, history_entry_behind_at, mark_in, history_entries_at}
use Rattle.inner_page.proofs.history_reading.entries_of.Goals as goal

pub returns-in_default : goal.returns-in_default
returns-in_default c =
    ends history_entry_behind_at mark_in c.loop.entries.items c.args.count c.loop.counter (option_map mark_seen c.loop.before) c.loop.reader (history_entries_at c.args.count None c.args.reader.now) c.loop-test.true c.in_default.ensures c.loop.invariant.read

pub loop-preserved : goal.loop-preserved
loop-preserved c = record {
  room = c.push_reserved.ensures.capacity ∙ c.loop.invariant.room;
  len = omega (arith, c.push_reserved.ensures.len, c.loop.invariant.len);
  read =
      ap (λ (l : List HistoryEntry). with_front l (history_entries_at (c.args.count - (c.loop.counter + 1)) (Some (mark_seen c.in-Some.lent.least)) c.next_entry.new.reader)) (c.push_reserved.ensures.items ∙ ap (λ (e : HistoryEntry). c.loop.entries.items ++ e ∷ []) c.in_ok-owned.ensures)
      ∙ goes_on history_entry_behind_at mark_in c.loop.entries.items c.args.count c.loop.counter (option_map mark_seen c.loop.before) c.loop.reader (history_entry_seen c.in-Some.lent) c.next_entry.new.reader (history_entries_at c.args.count None c.args.reader.now) c.loop-test.true c.in-Some.ensures c.loop.invariant.read;
}

pub returns : goal.returns
returns c =
    is_done history_entry_behind_at mark_in c.loop.entries.items c.args.count c.loop.counter (option_map mark_seen c.loop.before) c.loop.reader (history_entries_at c.args.count None c.args.reader.now) c.loop-test.false c.loop.invariant.read
