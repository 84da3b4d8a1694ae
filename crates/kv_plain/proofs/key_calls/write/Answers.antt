use Rattle.std.proofs.Common.{ap}
use Rattle.kv_model.specs.Decisions.{FindToWrite, WriteAnswer}
use Rattle.kv_plain.specs.Machine.{machine_in}
use Rattle.kv_plain.specs.Outcome.{outcome_in, event_in, decision_in}
use Rattle.wt_calls.specs.Calls.{demand_in}
use Rattle.kv_plain.proofs.Calling.{write-goes, place-found, place-done, place-refused}
use Rattle.kv_plain.proofs.key_calls.write.Goals as goal

pub judge_found-outcome-requires : goal.judge_found-outcome-requires
judge_found-outcome-requires c = place-found (machine_in c.args.m) (machine_in c.in_ok-found-in-Done.found) c.args.session c.args.table (FindToWrite c.args.table c.args.key c.args.change) (decision_in c.decide_write-outcome.result)
    (write-goes (machine_in c.args.m) c.args.session c.args.table c.args.key c.args.change) c.decide_write-outcome.ensures c.in_ok-found-in-Done.ensures (ap outcome_in c.in-Done.is)

pub returns-in-Done : goal.returns-in-Done
returns-in-Done c =
    let judged = c.judge_found-outcome.ensures in
    place-done (machine_in c.args.m) (machine_in c.in_ok-found-in-Done.found) (machine_in c.in_ok-machine-in-Done.machine) c.args.session c.args.table (FindToWrite c.args.table c.args.key c.args.change) (λ n t table o event. WriteAnswer n c.args.session t table.number c.args.key c.args.change (demand_in c.args.demand) o event) (decision_in c.decide_write-outcome.result) judged.0 judged.1
    (outcome_in c.judge_found-outcome.result.outcome) (event_in c.judge_found-outcome.result.event)
    c.decide_write-outcome.ensures c.in_ok-found-in-Done.ensures (ap outcome_in c.in-Done.is) judged.2 judged.3 c.in_ok-machine-in-Done.ensures

pub returns : goal.returns
returns c = place-refused (machine_in c.args.m) c.args.session c.args.table (FindToWrite c.args.table c.args.key c.args.change) (λ n t table o event. WriteAnswer n c.args.session t table.number c.args.key c.args.change (demand_in c.args.demand) o event) c.decide_write-outcome.result.outcome (event_in c.decide_write-outcome.result.event)
    (write-goes (machine_in c.args.m) c.args.session c.args.table c.args.key c.args.change) c.decide_write-outcome.ensures c.in_default.not-Done
