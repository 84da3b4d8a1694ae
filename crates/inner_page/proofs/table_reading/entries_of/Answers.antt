use Rattle.std.proofs.Common.{◌+◌, ◌-◌, ◌++◌, ◌∷◌, [], List, None, Some, ap, ◌∙◌, arith}
use Rattle.std.specs.Prelude.{option_map}
use Rattle.le_codec.specs.Combine.{with_front}
use Rattle.le_codec.proofs.Chains.{goes_on, ends, is_done}
use Rattle.stored.specs.TableTree.{Entry}
use Rattle.inner_page.specs.TableReading.{entry_seen, entry_behind_at, key_in, entries_at}
use Rattle.inner_page.proofs.table_reading.entries_of.Goals as goal

pub returns-in_default : goal.returns-in_default
returns-in_default c =
    ends entry_behind_at key_in c.loop.entries.items c.args.count c.loop.counter (option_map (λ v. v.now) c.loop.before) c.loop.reader (entries_at c.args.count None c.args.reader.now) c.loop-test.true c.in_default.ensures c.loop.invariant.read

pub loop-preserved : goal.loop-preserved
loop-preserved c = record {
  room = c.push_reserved.ensures.capacity ∙ c.loop.invariant.room;
  len = omega (arith, c.push_reserved.ensures.len, c.loop.invariant.len);
  read =
      ap (λ (l : List Entry). with_front l (entries_at (c.args.count - (c.loop.counter + 1)) (Some c.in-Some.lent.key.now) c.next_entry.new.reader)) (c.push_reserved.ensures.items ∙ ap (λ (e : Entry). c.loop.entries.items ++ e ∷ []) c.in_ok-owned.ensures)
      ∙ goes_on entry_behind_at key_in c.loop.entries.items c.args.count c.loop.counter (option_map (λ v. v.now) c.loop.before) c.loop.reader (entry_seen c.in-Some.lent) c.next_entry.new.reader (entries_at c.args.count None c.args.reader.now) c.loop-test.true c.in-Some.ensures c.loop.invariant.read;
}

pub returns : goal.returns
returns c =
    is_done entry_behind_at key_in c.loop.entries.items c.args.count c.loop.counter (option_map (λ v. v.now) c.loop.before) c.loop.reader (entries_at c.args.count None c.args.reader.now) c.loop-test.false c.loop.invariant.read
