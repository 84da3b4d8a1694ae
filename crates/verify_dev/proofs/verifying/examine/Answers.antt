use Rattle.std.proofs.Common.{◌∙◌, sym, subst, List, ℕ, Option, IsTrue}
use Rattle.failure.specs.Counts.{Rose}
use Rattle.device_leaf.proofs.Opens.{err_map, rose_sooner}
use Rattle.tree_open.specs.Damage.{Refused}
use Rattle.tree_open.proofs.Steps.{refused_more}
use Rattle.recover_open.specs.declared.wholes.Whole.{Whole}
use Rattle.recover_open.specs.Wholes.{SurveysWhole, SurveysWholeOr, IsWholeDamage}
use Rattle.verify_dev.proofs.verifying.examine.Goals as goal

pub returns-in-Some-clause-err : goal.returns-in-Some-clause-err
returns-in-Some-clause-err g c =
    let D = g.D.Disk in
    let looked = c.survey_whole.ensures.looked in
    let place = c.in-Ok.found.place in
    let whole = c.in-Some.whole in
    err_map c.examine_from.result c.examine_from.ensures.err (λ r why. subst (λ (l : List ℕ). Refused (Rose (D.faults c.args.disk.now) (D.faults c.examine_from.new.disk)) (IsTrue (D.honest c.args.disk.now)) (IsWholeDamage l) r) looked.content
    (refused_more _ _ _ (IsTrue (D.honest c.args.disk.now)) (IsWholeDamage (D.seen c.survey_whole.new.disk)) (IsWholeDamage (D.seen c.survey_whole.new.disk)) r (rose_sooner _ _ _ looked.count)
    (λ h. (looked.same ∙ h, (place, subst (λ (l : List ℕ). SurveysWhole l place whole) (sym looked.content) (subst (λ (o : Option Whole). SurveysWholeOr (D.seen c.args.disk.now) place o) c.in-Some.is (c.in-Ok.ensures.ok h)))))
    (λ at want found h damage. damage) why))
