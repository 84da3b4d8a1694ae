use Rattle.std.proofs.Common.{sym, subst}
use Rattle.wt_calls.specs.Calls.{system_call_in}
use Rattle.kv_plain.specs.Machine.{machine_in}
use Rattle.kv_plain.specs.Outcome.{outcome_in}
use Rattle.kv_plain.specs.Calls.{Leads, SystemDecided}
use Rattle.kv_plain.proofs.calls.system_turn.Goals as goal

pub returns-in-Create : goal.returns-in-Create
returns-in-Create c =
    subst (λ k. Leads (SystemDecided c.args.around.now (machine_in c.args.m) (system_call_in k)) c.create.result) (sym c.in-Create.is) (c.create.ensures c.args.around.now)

pub returns-in-Evict : goal.returns-in-Evict
returns-in-Evict c =
    subst (λ k. SystemDecided c.args.around.now (machine_in c.args.m) (system_call_in k) (outcome_in c.evict.result.outcome) (machine_in c.evict.result.machine)) (sym c.in-Evict.is) (c.evict.ensures c.args.around.now)
