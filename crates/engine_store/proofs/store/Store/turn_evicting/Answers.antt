use Rattle.std.proofs.Common.{◌∙◌, sym}
use Rattle.failure.specs.Counts.{Rose}
use Rattle.engine.specs.declared.turning.EvictStage.TheVariants.{Find, Lock, Scan, Ask, Cut}
use Rattle.engine_store.specs.Answers.{answer_of}
use Rattle.engine_store.specs.Keeping.{with_kept}
use Rattle.engine_store.proofs.EvictTurns.{beside_at, fewer_at, in_call_here, own_never, sees_of, turns_at, writes_take}
use Rattle.engine_store.proofs.store.Store.turn_evicting.Goals as goal

pub returns-then-has_started-clause-turns : goal.returns-then-has_started-clause-turns
returns-then-has_started-clause-turns g c = λ h start w first made held.
    in_call_here g.D.Disk start w first made c.args.self.now c.args.disk.now c.args.evicting.now c.args.number c.args.one.now.table c.args.one.now.key held c.args.one.now.stage (sym (c.has_started.ensures (with_kept c.args.self.now.ground.kept w) held.stands) ∙ c.if-has_started.true)

pub returns-in-Write-clause-turns : goal.returns-in-Write-clause-turns
returns-in-Write-clause-turns g c = λ h start w first made held.
    beside_at g.D.Disk start w first made c.args.self.now c.evict_beside.new.self c.args.disk.now c.evict_beside.new.disk c.args.evicting.now c.args.number c.args.one.now.table c.args.one.now.key c.args.one.now.stage (answer_of c.evict_beside.result)
    (writes_take c.args.one.now.stage c.in-Write.field-0 c.in-Write.is) (c.evict_beside.ensures.evicts h start w first made held)

pub returns-in-Find-clause-turns : goal.returns-in-Find-clause-turns
returns-in-Find-clause-turns g c =
    turns_at g.D.Disk c.args.self.now c.args.disk.now c.args.evicting.now c.args.number c.args.one.now (λ w stands. sym (c.has_started.ensures w stands) ∙ c.if-has_started.false) Find c.find.result c.in-Find.is
    (sees_of c.args.self.now.engine c.args.evicting.now c.args.number c.as_bytes-table.result.now c.args.one.now.table c.as_bytes-key.result.now c.args.one.now.key Find c.find.result c.as_bytes-table.ensures c.as_bytes-key.ensures (c.find.ensures.sees c.args.evicting.now))

pub returns-in-Find-clause-fewer : goal.returns-in-Find-clause-fewer
returns-in-Find-clause-fewer g c = fewer_at c.args.self.now.engine c.args.one.now Find c.find.result c.in-Find.is c.find.ensures.fewer

pub returns-in-Find-clause-fault : goal.returns-in-Find-clause-fault
returns-in-Find-clause-fault g c = own_never (Rose (g.D.Disk.faults c.args.disk.now) (g.D.Disk.faults c.args.disk.now)) c.find.result c.find.ensures.own

pub returns-in-Lock-clause-turns : goal.returns-in-Lock-clause-turns
returns-in-Lock-clause-turns g c =
    turns_at g.D.Disk c.args.self.now c.args.disk.now c.args.evicting.now c.args.number c.args.one.now (λ w stands. sym (c.has_started.ensures w stands) ∙ c.if-has_started.false) (Lock c.in-Lock.target) c.lock.result c.in-Lock.is
    (c.lock.ensures.sees c.args.number c.args.one.now.table c.args.one.now.key)

pub returns-in-Lock-clause-fewer : goal.returns-in-Lock-clause-fewer
returns-in-Lock-clause-fewer g c = fewer_at c.args.self.now.engine c.args.one.now (Lock c.in-Lock.target) c.lock.result c.in-Lock.is c.lock.ensures.fewer

pub returns-in-Lock-clause-fault : goal.returns-in-Lock-clause-fault
returns-in-Lock-clause-fault g c = own_never (Rose (g.D.Disk.faults c.args.disk.now) (g.D.Disk.faults c.args.disk.now)) c.lock.result c.lock.ensures.own

pub returns-in-Scan-clause-turns : goal.returns-in-Scan-clause-turns
returns-in-Scan-clause-turns g c =
    turns_at g.D.Disk c.args.self.now c.args.disk.now c.args.evicting.now c.args.number c.args.one.now (λ w stands. sym (c.has_started.ensures w stands) ∙ c.if-has_started.false) (Scan c.in-Scan.target c.in-Scan.word) c.scan.result c.in-Scan.is
    (c.scan.ensures.sees c.args.evicting.now c.args.number c.args.one.now.table c.args.one.now.key)

pub returns-in-Scan-clause-fewer : goal.returns-in-Scan-clause-fewer
returns-in-Scan-clause-fewer g c = fewer_at c.args.self.now.engine c.args.one.now (Scan c.in-Scan.target c.in-Scan.word) c.scan.result c.in-Scan.is c.scan.ensures.fewer

pub returns-in-Scan-clause-fault : goal.returns-in-Scan-clause-fault
returns-in-Scan-clause-fault g c = own_never (Rose (g.D.Disk.faults c.args.disk.now) (g.D.Disk.faults c.args.disk.now)) c.scan.result c.scan.ensures.own

pub returns-in-Ask-clause-turns : goal.returns-in-Ask-clause-turns
returns-in-Ask-clause-turns g c =
    turns_at g.D.Disk c.args.self.now c.args.disk.now c.args.evicting.now c.args.number c.args.one.now (λ w stands. sym (c.has_started.ensures w stands) ∙ c.if-has_started.false) (Ask c.in-Ask.target) c.ask.result c.in-Ask.is
    (sees_of c.args.self.now.engine c.args.evicting.now c.args.number c.as_bytes-table.result.now c.args.one.now.table c.as_bytes-key.result.now c.args.one.now.key (Ask c.in-Ask.target) c.ask.result c.as_bytes-table.ensures c.as_bytes-key.ensures (c.ask.ensures.sees c.args.evicting.now))

pub returns-in-Ask-clause-fewer : goal.returns-in-Ask-clause-fewer
returns-in-Ask-clause-fewer g c = fewer_at c.args.self.now.engine c.args.one.now (Ask c.in-Ask.target) c.ask.result c.in-Ask.is c.ask.ensures.fewer

pub returns-in-Ask-clause-fault : goal.returns-in-Ask-clause-fault
returns-in-Ask-clause-fault g c = own_never (Rose (g.D.Disk.faults c.args.disk.now) (g.D.Disk.faults c.args.disk.now)) c.ask.result c.ask.ensures.own

pub returns-in-Cut-clause-turns : goal.returns-in-Cut-clause-turns
returns-in-Cut-clause-turns g c =
    turns_at g.D.Disk c.args.self.now c.args.disk.now c.args.evicting.now c.args.number c.args.one.now (λ w stands. sym (c.has_started.ensures w stands) ∙ c.if-has_started.false) (Cut c.in-Cut.target) c.judge.result c.in-Cut.is
    (c.judge.ensures.sees c.args.evicting.now c.args.number c.args.one.now.table c.args.one.now.key)

pub returns-in-Cut-clause-fewer : goal.returns-in-Cut-clause-fewer
returns-in-Cut-clause-fewer g c = fewer_at c.args.self.now.engine c.args.one.now (Cut c.in-Cut.target) c.judge.result c.in-Cut.is c.judge.ensures.fewer

pub returns-in-Cut-clause-fault : goal.returns-in-Cut-clause-fault
returns-in-Cut-clause-fault g c = own_never (Rose (g.D.Disk.faults c.args.disk.now) (g.D.Disk.faults c.args.disk.now)) c.judge.result c.judge.ensures.own
