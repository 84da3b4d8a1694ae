use Rattle.std.proofs.Common.{ap}
use Rattle.kv_model.specs.Decisions.{FindRow}
use Rattle.kv_model.specs.Rows.{NextAnswer}
use Rattle.kv_plain.specs.Machine.{machine_in}
use Rattle.kv_plain.specs.Outcome.{outcome_in, event_in, decision_in}
use Rattle.wt_calls.specs.Calls.{way_in}
use Rattle.kv_plain.proofs.Calling.{row-goes, place-found, place-done, place-refused}
use Rattle.kv_plain.proofs.cursor_calls.step.Goals as goal

pub judge_step-requires : goal.judge_step-requires
judge_step-requires c = place-found (machine_in c.args.m) (machine_in c.in_ok-found-in-Done.found) c.args.session c.args.table (FindRow c.args.table) (decision_in c.decide_row-outcome.result)
    (row-goes (machine_in c.args.m) c.args.session c.args.table) c.decide_row-outcome.ensures c.in_ok-found-in-Done.ensures (ap outcome_in c.in-Done.is)

pub returns-in-Done : goal.returns-in-Done
returns-in-Done c =
    let judged = c.in_ok-outcome-in-Done.ensures in
    place-done (machine_in c.args.m) (machine_in c.in_ok-found-in-Done.found) (machine_in c.in_ok-machine-in-Done.machine) c.args.session c.args.table (FindRow c.args.table) (λ n t table o event. NextAnswer n c.args.session t c.args.cursor table.number (way_in c.args.way) o event) (decision_in c.decide_row-outcome.result) judged.0 judged.1
    (outcome_in c.in_ok-outcome-in-Done.field-0.outcome) (event_in c.in_ok-outcome-in-Done.field-0.event)
    c.decide_row-outcome.ensures c.in_ok-found-in-Done.ensures (ap outcome_in c.in-Done.is) judged.2 judged.3 c.in_ok-machine-in-Done.ensures

pub returns : goal.returns
returns c = place-refused (machine_in c.args.m) c.args.session c.args.table (FindRow c.args.table) (λ n t table o event. NextAnswer n c.args.session t c.args.cursor table.number (way_in c.args.way) o event) c.decide_row-outcome.result.outcome (event_in c.decide_row-outcome.result.event)
    (row-goes (machine_in c.args.m) c.args.session c.args.table) c.decide_row-outcome.ensures c.in_default.not-Done
