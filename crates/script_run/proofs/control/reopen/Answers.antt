use Rattle.std.proofs.Common.{ap}
use Rattle.engine_store.specs.declared.store.Store.{Store}
use Rattle.script_run.proofs.Devices.{not_reopened, reopened}
use Rattle.script_run.proofs.Telling.{done_faults, stays_faults}
use Rattle.script_run.proofs.control.reopen.Goals as goal

pub returns-in-Err-clause-replies : goal.returns-in-Err-clause-replies
returns-in-Err-clause-replies g c = λ honest first s at.
    not_reopened g.D.Disk first s c.args.store.now c.reopen.new.self c.args.disk.now c.reopen.new.disk at c.args.frames c.in-Err.refusal (ap (λ (x : Store). x.frames) c.in-Err.ensures.same) (ap (λ (x : Store). x.running) c.in-Err.ensures.same) (c.in-Err.ensures.opens honest first s.world s.first s.made at.held)

pub returns-in-Ok-clause-replies : goal.returns-in-Ok-clause-replies
returns-in-Ok-clause-replies g c = λ honest first s at.
    reopened g.D.Disk first s c.args.store.now c.reopen.new.self c.args.disk.now c.reopen.new.disk at c.done.result c.none.result c.args.frames c.in-Ok.ensures.frames c.actors.ensures.systems (c.in-Ok.ensures.opens honest first s.world s.first s.made at.held) c.done.ensures.reply c.done.ensures.formats c.none.ensures

pub returns-in-Err-clause-told : goal.returns-in-Err-clause-told
returns-in-Err-clause-told g c = stays_faults g.D.Disk c.args.store.now c.reopen.new.self c.args.disk.now c.reopen.new.disk _ c.reopen.ensures.told c.in-Err.ensures.fault

pub returns-in-Ok-clause-told : goal.returns-in-Ok-clause-told
returns-in-Ok-clause-told g c = done_faults g.D.Disk c.args.store.now c.reopen.new.self c.args.disk.now c.reopen.new.disk c.done.result c.done.ensures.reply c.reopen.ensures.told
