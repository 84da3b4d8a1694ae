use Rattle.std.proofs.Common.{ap}
use Rattle.kv_plain.specs.Plain.{entry_in, history_in, version_in}
use Rattle.kv_plain.proofs.PlainLooks.{newest-here, newest-under}
use Rattle.kv_plain.proofs.looks.+find_newest.Goals as goal

pub returns-in-Some-find_in_entry : goal.returns-in-Some-find_in_entry
returns-in-Some-find_in_entry t c = newest-here (history_in c.args.all.now) (history_in c.args.history.now) (entry_in c.in-Some.entry.now) (history_in c.in-Some.older.now) c.args.n c.args.read c.args.table c.args.key.now c.args.bound
    (version_in c.in-Some-find_in_entry.found) (ap history_in c.in-Some.ensures.cases.0) c.in-Some-find_in_entry.ensures

pub returns-in-None-find_in_entry : goal.returns-in-None-find_in_entry
returns-in-None-find_in_entry t c = newest-under (history_in c.args.all.now) (history_in c.args.history.now) (entry_in c.in-Some.entry.now) (history_in c.in-Some.older.now) c.args.n c.args.read c.args.table c.args.key.now c.args.bound c.bound_below.result
    _ (ap history_in c.in-Some.ensures.cases.0) c.in-None-find_in_entry.ensures c.bound_below.ensures c.find_newest.ensures
