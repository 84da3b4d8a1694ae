use Rattle.std.proofs.Common.{length, take, ap, arith}
use Rattle.std.proofs.lemmas.List.{length-append}
use Rattle.std.specs.List.{flat_map}
use Rattle.stored.specs.HistoryTree.{history_entry_text}
use Rattle.stored.proofs.Exact.{length-history-entry}
use Rattle.inner_page.proofs.Lists.{flat_step, flat_upto}
use Rattle.inner_page.proofs.history_writing.entries_len.Goals as goal

pub overflow_add-len : goal.overflow_add-len
overflow_add-len c =
    omega (arith, c.requires, c.loop-entry.invariant, ap length c.key_of.ensures, flat_upto history_entry_text c.args.entries.now c.loop-entry.entry-index c.entry-item.result c.loop-entry-test.true c.entry-item.is, length-history-entry c.entry-item.result)

pub overflow_add-len-in-loop-entry : goal.overflow_add-len-in-loop-entry
overflow_add-len-in-loop-entry c =
    omega (arith, c.requires, c.loop-entry.invariant, ap length c.key_of.ensures, flat_upto history_entry_text c.args.entries.now c.loop-entry.entry-index c.entry-item.result c.loop-entry-test.true c.entry-item.is, length-history-entry c.entry-item.result)

pub loop-entry-preserved : goal.loop-entry-preserved
loop-entry-preserved c =
    omega (
      arith,
      c.loop-entry.invariant,
      ap length c.key_of.ensures,
      ap length (flat_step history_entry_text c.args.entries.now c.loop-entry.entry-index c.entry-item.result c.loop-entry-test.true c.entry-item.is),
      length-append (flat_map history_entry_text (take c.loop-entry.entry-index c.args.entries.now)) (history_entry_text c.entry-item.result),
      length-history-entry c.entry-item.result,
    )
