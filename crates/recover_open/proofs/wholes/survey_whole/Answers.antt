use Rattle.std.proofs.Common.{◌≡◌, ◌≤◌, ◌∙◌, refl, sym, subst, List, length, ℕ, Option, Some, IsTrue}
use Rattle.failure.specs.Counts.{Rose}
use Rattle.disk_model.proofs.Crash.{looked_then}
use Rattle.device_layout.specs.declared.slot.Slot.{Slot}
use Rattle.turtle.specs.Slots.{Chooses}
use Rattle.device_leaf.specs.Damage.{IsChosen}
use Rattle.device_leaf.proofs.Opens.{err_map, ok_map, rose_sooner}
use Rattle.tree_open.specs.Damage.{Refused}
use Rattle.tree_open.proofs.Steps.{refused_more}
use Rattle.recover_open.specs.Wholes.{CanSurveyWhole, IsSurveyedWhole, IsWholeDamage}
use Rattle.recover_open.proofs.WholeSteps.{slot_damage, no_whole, of_slot_whole, whole_there}
use Rattle.recover_open.proofs.wholes.survey_whole.Goals as goal

pub returns-in-Err-clause-err : goal.returns-in-Err-clause-err
returns-in-Err-clause-err g c = slot_damage _ _ (g.D.Disk.seen c.args.disk.now) _ c.in-Err.ensures.fault c.in-Err.ensures.corrupt

pub returns-in-Ok-None-clause-ok : goal.returns-in-Ok-None-clause-ok
returns-in-Ok-None-clause-ok g c h =
    let bytes = g.D.Disk.seen c.args.disk.now in
    let there = c.in-Ok-None.ensures.chosen h in
    no_whole bytes _ c.blank.result refl refl c.blank.ensures there.0 (subst (λ (o : Option Slot). Chooses bytes o) c.in-Ok-None.field-0-is there.1)

chosen_now : (bytes : List ℕ) (o : Option Slot) (slot : Slot) → (8192 ≤ length bytes) × Chooses bytes o → o ≡ Some slot → IsChosen bytes slot
chosen_now bytes o slot there is = record { long = there.0; chooses = subst (λ (x : Option Slot). Chooses bytes x) is there.1 }

pub returns-in-Ok-Some-clause-ok : goal.returns-in-Ok-Some-clause-ok
returns-in-Ok-Some-clause-ok g c h =
    let looked = c.choose.ensures.looked in
    ok_map c.whole_at.result (c.whole_at.ensures.ok (looked.same ∙ h) (subst (λ (l : List ℕ). IsChosen l c.in-Ok-Some.slot) (sym looked.content) (chosen_now (g.D.Disk.seen c.args.disk.now) _ c.in-Ok-Some.slot (c.in-Ok-Some.ensures.chosen h) c.in-Ok-Some.field-0-is)))
    (λ o is. subst (λ (l : List ℕ). IsSurveyedWhole l o) looked.content is)

pub returns-in-Ok-Some-clause-err : goal.returns-in-Ok-Some-clause-err
returns-in-Ok-Some-clause-err g c =
    let D = g.D.Disk in
    let looked = c.choose.ensures.looked in
    err_map c.whole_at.result c.whole_at.ensures.err (λ r why. subst (λ (l : List ℕ). Refused (Rose (D.faults c.args.disk.now) (D.faults c.whole_at.new.disk)) (IsTrue (D.honest c.args.disk.now)) (IsWholeDamage l) r) looked.content
    (refused_more _ _ _ (IsTrue (D.honest c.args.disk.now)) (IsWholeDamage (D.seen c.choose.new.disk)) (IsWholeDamage (D.seen c.choose.new.disk)) r (rose_sooner _ _ _ looked.count)
    (λ h. (looked.same ∙ h, subst (λ (l : List ℕ). IsChosen l c.in-Ok-Some.slot) (sym looked.content) (chosen_now (D.seen c.args.disk.now) _ c.in-Ok-Some.slot (c.in-Ok-Some.ensures.chosen h) c.in-Ok-Some.field-0-is)))
    (λ at want found h damage. damage) why))

pub returns-in-Ok-Some-clause-looked : goal.returns-in-Ok-Some-clause-looked
returns-in-Ok-Some-clause-looked g c =
    let D = g.D.Disk in
    looked_then D _ _ _ c.choose.ensures.looked c.whole_at.ensures.looked

pub returns-in-Err-clause-sole : goal.returns-in-Err-clause-sole
returns-in-Err-clause-sole g c h can = of_slot_whole (g.D.Disk.seen c.args.disk.now) c.in-Err.refusal can (c.in-Err.ensures.corrupt h)

pub returns-in-Ok-Some-clause-sole : goal.returns-in-Ok-Some-clause-sole
returns-in-Ok-Some-clause-sole g c h can =
    let looked = c.choose.ensures.looked in
    let chosen = subst (λ (l : List ℕ). IsChosen l c.in-Ok-Some.slot) (sym looked.content) (chosen_now (g.D.Disk.seen c.args.disk.now) _ c.in-Ok-Some.slot (c.in-Ok-Some.ensures.chosen h) c.in-Ok-Some.field-0-is) in
    c.whole_at.ensures.sole (looked.same ∙ h) (whole_there (g.D.Disk.seen c.choose.new.disk) c.in-Ok-Some.slot chosen (subst (λ (l : List ℕ). CanSurveyWhole l) (sym looked.content) can))
