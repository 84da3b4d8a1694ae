use Rattle.std.proofs.Common.{◌∙◌, ℕ, List, IsTrue, subst}
use Rattle.std.specs.Prelude.{IfErr, IfOk, OnOk}
use Rattle.failure.specs.Counts.{Rose}
use Rattle.device_leaf.proofs.Opens.{err_map, rose_sooner}
use Rattle.device_read.specs.Readers.{IsReaderOf}
use Rattle.device_read.specs.Refusals.{OpenRefused}
use Rattle.device_read.specs.Steps.{CanOpen, HasNumbersAbove, RefusesSurveyed}
use Rattle.wt_tool.proofs.Running.{reader_further}
use Rattle.wt_tool.proofs.opening.reach_reader.Goals as goal

pub returns-in-Ok-clause-ok : goal.returns-in-Ok-clause-ok
returns-in-Ok-clause-ok g c h = subst (λ (l : List ℕ). IfOk c.open.result (IsReaderOf l)) c.attach.ensures.seen (c.open.ensures.ok (c.attach.ensures.same ∙ h))

pub returns-in-Ok-clause-numbers : goal.returns-in-Ok-clause-numbers
returns-in-Ok-clause-numbers g c h = subst (λ (l : List ℕ). OnOk c.open.result (HasNumbersAbove l)) c.attach.ensures.seen (c.open.ensures.surveyed (c.attach.ensures.same ∙ h))

pub returns-in-Ok-clause-err : goal.returns-in-Ok-clause-err
returns-in-Ok-clause-err g c =
    let D = g.D.Disk in
    err_map c.open.result c.open.ensures.err (λ r why. subst (λ (l : List ℕ). OpenRefused (Rose (D.faults c.args.disk.now) (D.faults c.open.new.disk)) (IsTrue (D.honest c.args.disk.now)) l r) c.attach.ensures.seen
    (reader_further _ _ _ (IsTrue (D.honest c.args.disk.now)) (D.seen c.attach.new.self) r (rose_sooner _ _ _ c.attach.ensures.later) (λ h. c.attach.ensures.same ∙ h) why))

pub returns-in-Ok-clause-sole : goal.returns-in-Ok-clause-sole
returns-in-Ok-clause-sole g c h = subst (λ (l : List ℕ). CanOpen l → IfErr c.open.result (RefusesSurveyed l)) c.attach.ensures.seen (c.open.ensures.sole (c.attach.ensures.same ∙ h))
