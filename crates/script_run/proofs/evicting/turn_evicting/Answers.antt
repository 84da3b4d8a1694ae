use Rattle.script_run.proofs.EvictingLines.{busy_line, finish_line, step_line}
use Rattle.script_run.proofs.Telling.{refused_faults, same_told}
use Rattle.script_run.proofs.evicting.turn_evicting.Goals as goal

pub returns-in-Step-clause-replies : goal.returns-in-Step-clause-replies
returns-in-Step-clause-replies g c = λ honest first s at same its there.
    step_line g.D.Disk first s c.step_evicting.new.store c.step_evicting.new.disk c.step_evicting.new.kept c.step_evicting.result c.args.line c.in-Step.field-0 c.args.number c.in-Step.is its
    (λ is. c.step_evicting.ensures.replies honest first s at same c.in-Step.field-0 is there)

pub returns-in-Finish-clause-replies : goal.returns-in-Finish-clause-replies
returns-in-Finish-clause-replies g c = λ honest first s at same its there.
    finish_line g.D.Disk first s c.finish_evicting.new.store c.finish_evicting.new.disk c.finish_evicting.new.kept c.finish_evicting.result c.args.line c.in-Finish.field-0 c.args.number c.in-Finish.is its
    (λ is. c.finish_evicting.ensures.replies honest first s at same c.in-Finish.field-0 is there)

pub returns-in_default-clause-replies : goal.returns-in_default-clause-replies
returns-in_default-clause-replies g c = λ honest first s at same its there.
    busy_line g.D.Disk first s c.args.store.now c.args.disk.now at c.refused.result c.args.kept.now c.args.number c.args.line same its there c.refused.ensures.reply c.requires.now c.in_default.not-Step c.in_default.not-Finish

pub returns-in_default-clause-told : goal.returns-in_default-clause-told
returns-in_default-clause-told g c =
    let store = c.args.store.now in
    let disk = c.args.disk.now in
    refused_faults g.D.Disk store store disk disk _ c.refused.result c.refused.ensures.reply (λ fault. absurd cc) (same_told g.D.Disk store disk)
