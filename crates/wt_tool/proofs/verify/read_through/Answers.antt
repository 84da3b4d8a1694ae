use Rattle.std.proofs.Common.{◌∙◌, subst, List, ℕ, IsTrue}
use Rattle.std.specs.Prelude.{IfOk}
use Rattle.failure.specs.Counts.{Rose}
use Rattle.device_leaf.proofs.Opens.{err_map, rose_sooner}
use Rattle.tree_open.specs.Damage.{Refused}
use Rattle.tree_open.proofs.Steps.{refused_more}
use Rattle.recover_open.specs.Wholes.{IsWholeDamage}
use Rattle.verify_dev.specs.Reports.{IsExamined}
use Rattle.wt_tool.proofs.verify.read_through.Goals as goal

pub returns-in-Ok-clause-ok : goal.returns-in-Ok-clause-ok
returns-in-Ok-clause-ok g c h = subst (λ (l : List ℕ). IfOk c.examine.result (IsExamined l)) c.attach.ensures.seen (c.examine.ensures.ok (c.attach.ensures.same ∙ h))

pub returns-in-Ok-clause-err : goal.returns-in-Ok-clause-err
returns-in-Ok-clause-err g c =
    let D = g.D.Disk in
    err_map c.examine.result c.examine.ensures.err (λ r why. subst (λ (l : List ℕ). Refused (Rose (D.faults c.args.disk.now) (D.faults c.examine.new.disk)) (IsTrue (D.honest c.args.disk.now)) (IsWholeDamage l) r) c.attach.ensures.seen
    (refused_more _ _ _ (IsTrue (D.honest c.args.disk.now)) (IsWholeDamage (D.seen c.attach.new.self)) (IsWholeDamage (D.seen c.attach.new.self)) r (rose_sooner _ _ _ c.attach.ensures.later) (λ h. c.attach.ensures.same ∙ h) (λ at want found h damage. damage) why))
