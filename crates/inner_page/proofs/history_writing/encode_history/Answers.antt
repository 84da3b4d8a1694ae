use Rattle.std.proofs.Common.{arith}
use Rattle.inner_page.proofs.HistoryPages.{entries_upto, keys_short}
use Rattle.inner_page.proofs.history_writing.encode_history.Goals as goal

pub overflow_cast-entries : goal.overflow_cast-entries
overflow_cast-entries c = omega (arith, entries_upto c.args.entries.now, c.requires.size)

pub put_entries-requires : goal.put_entries-requires
put_entries-requires c = keys_short c.args.level c.args.entries.now c.requires
