use Rattle.std.proofs.Common.{◌∙◌, sym, subst, List, ℕ, Option, IsTrue}
use Rattle.failure.specs.Counts.{Rose}
use Rattle.device_leaf.proofs.Opens.{err_map, rose_sooner}
use Rattle.recover_open.specs.declared.surveying.Above.{Above}
use Rattle.recover_open.specs.Recoveries.{RecoveryRefused}
use Rattle.recover_open.specs.Surveys.{Surveys, SurveysOr}
use Rattle.recover_open.proofs.Steps.{survey_refused, refused_further}
use Rattle.recover_open.proofs.opening.recover.Goals as goal

pub returns-in-Err-clause-err : goal.returns-in-Err-clause-err
returns-in-Err-clause-err g c = survey_refused _ _ (g.D.Disk.seen c.args.disk.now) c.in-Err.refusal c.in-Err.ensures.err

pub returns-in-Some-clause-err : goal.returns-in-Some-clause-err
returns-in-Some-clause-err g c =
    let D = g.D.Disk in
    let looked = c.survey.ensures.looked in
    let place = c.in-Ok.found.place in
    let above = c.in-Some.above in
    err_map c.recover_from.result c.recover_from.ensures.err (λ r why. subst (λ (l : List ℕ). RecoveryRefused (Rose (D.faults c.args.disk.now) (D.faults c.recover_from.new.disk)) (IsTrue (D.honest c.args.disk.now)) l r) looked.content
    (refused_further _ _ (IsTrue (D.honest c.args.disk.now)) _ (D.seen c.survey.new.disk) r why (rose_sooner _ _ _ looked.count)
    (λ h. (looked.same ∙ h, subst (λ (l : List ℕ). Surveys l place above) (sym looked.content) (subst (λ (o : Option Above). SurveysOr (D.seen c.args.disk.now) place o) c.in-Some.is (c.in-Ok.ensures.ok h))))))
