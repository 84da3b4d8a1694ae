use Rattle.std.proofs.Common.{sym, ◌∙◌}
use Rattle.kv_model.specs.Calls as model
use Rattle.kv_plain.specs.Plain.{table_in}
use Rattle.kv_plain.specs.Machine.{machine_in}
use Rattle.kv_plain.specs.Outcome.{outcome_in, decision_in}
use Rattle.kv_plain.specs.Calls.{Makes, SystemDecided}
use Rattle.kv_plain.proofs.PlainStanding.{ok_each}
use Rattle.kv_plain.proofs.calls.create.Goals as goal

pub returns : goal.returns
returns c around = ok_each (λ t. Makes (machine_in c.args.m) (decision_in c.decide_create-d.result) (outcome_in t.outcome) (machine_in t.machine)) (λ t. SystemDecided around (machine_in c.args.m) (model.Create c.args.name c.args.formats) (outcome_in t.outcome) (machine_in t.machine))
    c.once.result c.once.ensures (λ t made. (table_in c.in_ok-table.table, c.in_ok-table.ensures, (made.0, sym c.decide_create-d.ensures ∙ made.1, made.2)))
