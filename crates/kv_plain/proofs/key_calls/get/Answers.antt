use Rattle.std.proofs.Common.{◌≡◌, ap, refl}
use Rattle.kv_model.specs.Machine.{Nothing}
use Rattle.kv_model.specs.Decisions.{FindKey, GetAnswer}
use Rattle.kv_plain.specs.Machine.{machine_in}
use Rattle.kv_plain.specs.Outcome.{outcome_in, event_in, decision_in}
use Rattle.kv_plain.proofs.Calling.{key-goes, place-found, place-done, place-refused}
use Rattle.kv_plain.proofs.key_calls.get.Goals as goal

pub read_found-requires : goal.read_found-requires
read_found-requires c = place-found (machine_in c.args.m) (machine_in c.in_ok-machine-in-Done.machine) c.args.session c.args.table (FindKey c.args.table c.args.key) (decision_in c.decide_find-outcome.result)
    (key-goes (machine_in c.args.m) c.args.session c.args.table c.args.key) c.decide_find-outcome.ensures c.in_ok-machine-in-Done.ensures (ap outcome_in c.in-Done.is)

pub returns-in-Done : goal.returns-in-Done
returns-in-Done c =
    let found = machine_in c.in_ok-machine-in-Done.machine in
    let read = c.in_ok-outcome-in-Done.ensures in
    place-done (machine_in c.args.m) found found c.args.session c.args.table (FindKey c.args.table c.args.key) (λ n t table o event. GetAnswer n c.args.session t table.number c.args.key o × (event ≡ Nothing)) (decision_in c.decide_find-outcome.result) read.0 read.1 (outcome_in c.in_ok-outcome-in-Done.outcome) Nothing
    c.decide_find-outcome.ensures c.in_ok-machine-in-Done.ensures (ap outcome_in c.in-Done.is) read.2 (read.3, refl) refl

pub returns : goal.returns
returns c = place-refused (machine_in c.args.m) c.args.session c.args.table (FindKey c.args.table c.args.key) (λ n t table o event. GetAnswer n c.args.session t table.number c.args.key o × (event ≡ Nothing)) c.decide_find-outcome.result.outcome (event_in c.decide_find-outcome.result.event)
    (key-goes (machine_in c.args.m) c.args.session c.args.table c.args.key) c.decide_find-outcome.ensures c.in_default.not-Done
