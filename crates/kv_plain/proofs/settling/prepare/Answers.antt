use Rattle.std.proofs.Common.{◌∙◌, ap, sym}
use Rattle.std.specs.Prelude.{option_map}
use Rattle.kv_plain.specs.Machine.{transaction_in, machine_in}
use Rattle.kv_plain.proofs.Changing.{prepare-none, prepare-some}
use Rattle.kv_plain.proofs.PlainStanding.{ok_each}
use Rattle.kv_plain.proofs.settling.prepare.Goals as goal

pub returns-in-None : goal.returns-in-None
returns-in-None c = prepare-none (machine_in c.args.m) (machine_in c.take_transaction-machine.result.machine) c.args.session c.args.stamp c.take_transaction-machine.ensures.machine
    (sym (ap (option_map transaction_in) c.in-None.is) ∙ c.take_transaction-machine.ensures.transaction)

pub returns-in-Some : goal.returns-in-Some
returns-in-Some c = ok_each _ _ c.prepare_taken.result c.prepare_taken.ensures (λ r. prepare-some (machine_in c.args.m) (machine_in c.take_transaction-machine.result.machine) (machine_in r) c.args.session c.args.stamp (transaction_in c.in-Some.t) c.take_transaction-machine.ensures.machine
    (sym (ap (option_map transaction_in) c.in-Some.is) ∙ c.take_transaction-machine.ensures.transaction))
