use Rattle.std.proofs.Common.{◌≡◌, Err, None, Result, ap, subst}
use Rattle.wt_code.specs.declared.refusals.Refusal.{Refusal}
use Rattle.wt_code.specs.declared.refusals.Refusal.TheVariants.{DiskFault}
use Rattle.engine_store.specs.Answers.{answer_of}
use Rattle.engine_store.specs.EvictSteps.{EvictsBeside}
use Rattle.script_run.proofs.evicting.answer_to.Goals as goal

pub returns-in-Ok-clause-evicts : goal.returns-in-Ok-clause-evicts
returns-in-Ok-clause-evicts g c = λ h start w first made held.
    subst (λ (r : Result (Unit {0}) Refusal). EvictsBeside g.D.Disk start w first made c.args.store.now c.evict_beside.new.self c.args.disk.now c.evict_beside.new.disk c.args.evicting.now c.args.number c.args.table.now c.args.key.now None (answer_of r)) c.in-Ok.is
    (c.evict_beside.ensures.evicts h start w first made held)

pub returns-in-Err-clause-evicts : goal.returns-in-Err-clause-evicts
returns-in-Err-clause-evicts g c = λ h start w first made held.
    subst (λ (r : Result (Unit {0}) Refusal). EvictsBeside g.D.Disk start w first made c.args.store.now c.evict_beside.new.self c.args.disk.now c.evict_beside.new.disk c.args.evicting.now c.args.number c.args.table.now c.args.key.now None (answer_of r)) c.in-Err.is
    (c.evict_beside.ensures.evicts h start w first made held)

pub returns-in-Err-clause-fault : goal.returns-in-Err-clause-fault
returns-in-Err-clause-fault g c = λ is.
    let fault : c.in-Err.refusal ≡ DiskFault = cc in
    c.in-Err.ensures.fault (ap (λ (r : Refusal). let told : Result (Unit {0}) Refusal = Err r in told) fault)
