use Rattle.std.proofs.Common.{◌∙◌, subst, List, ℕ, IsTrue}
use Rattle.std.specs.Prelude.{OnOk}
use Rattle.failure.specs.Counts.{Rose}
use Rattle.engine_store.specs.Opened.{OpenRefused}
use Rattle.device_leaf.proofs.Opens.{err_map, rose_sooner}
use Rattle.wt_tool.specs.Top.{IsReadable}
use Rattle.wt_tool.proofs.Reaching.{opened_on, readable}
use Rattle.wt_tool.proofs.Running.{open_further}
use Rattle.wt_tool.proofs.opening.reach.Goals as goal

pub returns-in-Ok-clause-ok : goal.returns-in-Ok-clause-ok
returns-in-Ok-clause-ok g c h =
    let honest = c.attach.ensures.same ∙ h in
    opened_on g.D.Disk c.attach.new.self c.open_on.new.disk c.open_on.result c.open_on.ensures.looked.content (c.open_on.ensures.ok honest) (c.open_on.ensures.spoils honest) (c.open_on.ensures.looked.same ∙ honest) c.open_on.ensures.basis c.open_on.ensures.frames

pub returns-in-Ok-clause-readable : goal.returns-in-Ok-clause-readable
returns-in-Ok-clause-readable g c h =
    subst (λ (l : List ℕ). OnOk c.open_on.result (IsReadable l)) c.attach.ensures.seen (readable (g.D.Disk.seen c.attach.new.self) c.open_on.result (c.open_on.ensures.surveyed (c.attach.ensures.same ∙ h)))

pub returns-in-Ok-clause-err : goal.returns-in-Ok-clause-err
returns-in-Ok-clause-err g c =
    let D = g.D.Disk in
    err_map c.open_on.result c.open_on.ensures.err (λ r why. subst (λ (l : List ℕ). OpenRefused (Rose (D.faults c.args.disk.now) (D.faults c.open_on.new.disk)) (IsTrue (D.honest c.args.disk.now)) l r) c.attach.ensures.seen
    (open_further _ _ (IsTrue (D.honest c.args.disk.now)) _ (D.seen c.attach.new.self) r why (rose_sooner _ _ _ c.attach.ensures.later) (λ h. c.attach.ensures.same ∙ h)))
