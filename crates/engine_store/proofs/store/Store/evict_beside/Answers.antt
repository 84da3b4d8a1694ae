use Rattle.wt_code.specs.declared.refusals.Refusal.TheVariants.{Busy}
use Rattle.wt_code.specs.declared.refusals.Busy.TheVariants.{Evicting as BusyEvicting}
use Rattle.std.specs.Prelude.{None}
use Rattle.failure.specs.Counts.{Rose}
use Rattle.engine_store.specs.Answers.{answer_of}
use Rattle.engine_store.specs.Keeping.{with_kept}
use Rattle.engine_store.proofs.EvictTurns.{beside_of, fault_of, locked_here, locked_of}
use Rattle.engine_store.proofs.store.Store.evict_beside.Goals as goal

pub returns-in-Some-clause-evicts : goal.returns-in-Some-clause-evicts
returns-in-Some-clause-evicts g c = λ h start w first made held.
    let x = c.in-Some.ensures.some (with_kept c.args.self.now.ground.kept w) held.stands in
    locked_here g.D.Disk start w first made c.args.self.now c.args.disk.now c.args.evicting.now c.args.number c.args.table.now c.args.key.now held None (Busy (BusyEvicting c.in-Some.frame)) x.0.none
    (locked_of c.args.self.now.engine w.machine c.args.evicting.now c.args.number c.as_bytes.result.now c.args.table.now c.as_bytes-2.result.now c.args.key.now (Busy (BusyEvicting c.in-Some.frame)) c.as_bytes.ensures c.as_bytes-2.ensures x.1)

pub returns-in-None-clause-evicts : goal.returns-in-None-clause-evicts
returns-in-None-clause-evicts g c = λ h start w first made held.
    beside_of g.D.Disk start w first made c.args.self.now c.evict.new.self c.args.disk.now c.evict.new.disk c.args.evicting.now c.args.number c.args.table.now c.args.key.now None (answer_of c.evict.result) (λ short. tt) (c.evict.ensures.evicts h start w first made held)

pub returns-in-None-clause-fault : goal.returns-in-None-clause-fault
returns-in-None-clause-fault g c = fault_of (Rose (g.D.Disk.faults c.args.disk.now) (g.D.Disk.faults c.evict.new.disk)) c.evict.result c.evict.ensures.fault
