use Rattle.std.proofs.Common.{ap}
use Rattle.kv_model.specs.Decisions.{FindKey}
use Rattle.kv_model.specs.Rows.{SeekAnswer}
use Rattle.kv_plain.specs.Machine.{machine_in}
use Rattle.kv_plain.specs.Outcome.{outcome_in, event_in, decision_in}
use Rattle.kv_plain.proofs.Calling.{key-goes, place-found, place-done, place-refused}
use Rattle.kv_plain.proofs.cursor_calls.seek_key.Goals as goal

pub judge_seek-requires : goal.judge_seek-requires
judge_seek-requires c = place-found (machine_in c.args.m) (machine_in c.in_ok-found-in-Done.found) c.args.session c.args.table (FindKey c.args.table c.args.key) (decision_in c.decide_find-outcome.result)
    (key-goes (machine_in c.args.m) c.args.session c.args.table c.args.key) c.decide_find-outcome.ensures c.in_ok-found-in-Done.ensures (ap outcome_in c.in-Done.is)

pub returns-in-Done : goal.returns-in-Done
returns-in-Done c =
    let judged = c.in_ok-outcome-in-Done.ensures in
    place-done (machine_in c.args.m) (machine_in c.in_ok-found-in-Done.found) (machine_in c.in_ok-machine-in-Done.machine) c.args.session c.args.table (FindKey c.args.table c.args.key) (λ n t table o event. SeekAnswer n c.args.session t c.args.cursor table.number c.args.key o event) (decision_in c.decide_find-outcome.result) judged.0 judged.1
    (outcome_in c.in_ok-outcome-in-Done.field-0.outcome) (event_in c.in_ok-outcome-in-Done.field-0.event)
    c.decide_find-outcome.ensures c.in_ok-found-in-Done.ensures (ap outcome_in c.in-Done.is) judged.2 judged.3 c.in_ok-machine-in-Done.ensures

pub returns : goal.returns
returns c = place-refused (machine_in c.args.m) c.args.session c.args.table (FindKey c.args.table c.args.key) (λ n t table o event. SeekAnswer n c.args.session t c.args.cursor table.number c.args.key o event) c.decide_find-outcome.result.outcome (event_in c.decide_find-outcome.result.event)
    (key-goes (machine_in c.args.m) c.args.session c.args.table c.args.key) c.decide_find-outcome.ensures c.in_default.not-Done
