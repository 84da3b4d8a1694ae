use Rattle.kv_plain.specs.Machine.{machine_in}
use Rattle.wt_calls.specs.Calls.{actor_in, call_in}
use Rattle.kv_plain.proofs.PlainStanding.{ok_each}
use Rattle.kv_plain.proofs.Calling.{exact-answers}
use Rattle.kv_plain.proofs.calls.run.Goals as goal

pub returns-clause-answers : goal.returns-clause-answers
returns-clause-answers c = ok_each _ _ c.answer_to.result c.answer_to.ensures (λ r. exact-answers c.args.around.now (machine_in c.args.m) r.answer (machine_in r.machine) (actor_in c.args.call) (call_in c.args.call))
