use Rattle.std.proofs.Common.{ap, map}
use Rattle.kv_plain.specs.Plain.{entry_in, history_in, placed_in}
use Rattle.kv_plain.proofs.PlainStanding.{stood, ok_more}
use Rattle.kv_plain.proofs.standing.+push_standing.Goals as goal

pub returns-in_ok-push_entry-in-Some : goal.returns-in_ok-push_entry-in-Some
returns-in_ok-push_entry-in-Some t c = ok_more _ _ c.push_standing.result c.push_standing.ensures
    (stood (map placed_in c.args.out.now.items) (map placed_in c.push_entry.new.out.items) (map placed_in c.push_standing.new.out.items) (history_in c.args.history.now) (entry_in c.in-Some.entry.now) (history_in c.in-Some.older.now)
    c.args.bound c.bound_below.result (ap history_in c.in-Some.ensures.cases.0) c.bound_below.ensures c.in_ok-push_entry-in-Some.ensures)
