use Rattle.std.proofs.Common.{ap, rules}
use Rattle.kv_plain.specs.Plain.{entry_in, history_in}
use Rattle.kv_plain.proofs.Creating.{greatest-made}
use Rattle.kv_plain.proofs.decisions.+greatest_number.Goals as goal

pub returns-in-Some : goal.returns-in-Some
returns-in-Some t c = greatest-made (entry_in c.in-Some.entry.now) (history_in c.in-Some.older.now) (history_in c.args.history.now) c.number_of.result c.greatest_number.result _
    (ap history_in c.in-Some.ensures.cases.0) c.number_of.ensures c.greatest_number.ensures (search rules)
