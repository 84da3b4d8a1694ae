use Rattle.std.proofs.Common.{◌∙◌, IsTrue, List, ℕ, Option, inl, inr, refl, subst, sym}
use Rattle.std.specs.Prelude.{OnOk, Result, Ok, Err}
use Rattle.device_leaf.proofs.Opens.{err_map, ok_map}
use Rattle.stored.specs.Stored.{Reads}
use Rattle.recover_open.specs.declared.wholes.Whole.{Whole}
use Rattle.recover_open.specs.Recoveries.{KeepsNone}
use Rattle.recover_open.specs.Wholes.{SurveysWhole, SurveysWholeOr}
use Rattle.engine_store.specs.Found.{IsFound}
use Rattle.engine_store.specs.Opened.{IsSurveyable, SpoilsAreThere}
use Rattle.engine_store.proofs.Founds.{opened_of}
use Rattle.engine_store.proofs.Refusing.{refused_above, refused_survey}
use Rattle.engine_store.proofs.SpoiltLeaves.{bare_spoils}
use Rattle.engine_store.proofs.opening.open_on.Goals as goal

on_any : {T E : Type 0} (P : Type 0) (r : Result T E) → P → OnOk r P
on_any P (Ok x) p = p
on_any P (Err e) p = tt

pub returns-in-Err-clause-err : goal.returns-in-Err-clause-err
returns-in-Err-clause-err g c = refused_survey g.D.Disk c.args.disk.now c.survey_whole.new.disk c.in-Err.refusal c.in-Err.ensures.err

-- ---- on a checkpoint

pub returns-in-Some-clause-ok : goal.returns-in-Some-clause-ok
returns-in-Some-clause-ok g c = λ honest content reads layered.
    let D = g.D.Disk in
    let mid = c.survey_whole.new.disk in
    let last = c.store_above.new.disk in
    let place = c.in-Ok.found.place in
    let found = subst (λ (o : Option Whole). SurveysWholeOr (D.seen c.args.disk.now) place o) c.in-Some.is (c.in-Ok.ensures.ok honest) in
    let surveyed : SurveysWhole (D.seen mid) place c.in-Some.whole = subst (λ (bytes : List ℕ). SurveysWhole bytes place c.in-Some.whole) (sym c.survey_whole.ensures.looked.content) found in
    let there : Reads (D.seen mid) content = subst (λ (bytes : List ℕ). Reads bytes content) (sym c.survey_whole.ensures.looked.content) reads in
    ok_map c.store_above.result (c.store_above.ensures.found (c.survey_whole.ensures.looked.same ∙ honest) surveyed content there layered) (λ s is. opened_of (D.seen last) (D.may_leave last) s (subst (λ (bytes : List ℕ). IsFound bytes s) (sym c.store_above.ensures.looked.content) is))

pub returns-in-Some-clause-surveyed : goal.returns-in-Some-clause-surveyed
returns-in-Some-clause-surveyed g c = λ honest.
    let bytes = g.D.Disk.seen c.args.disk.now in
    let place = c.in-Ok.found.place in
    on_any (IsSurveyable bytes) c.store_above.result (inr (place, c.in-Some.whole, subst (λ (o : Option Whole). SurveysWholeOr bytes place o) c.in-Some.is (c.in-Ok.ensures.ok honest)))

pub returns-in-Some-clause-spoils : goal.returns-in-Some-clause-spoils
returns-in-Some-clause-spoils g c = λ honest.
    let D = g.D.Disk in
    let mid = c.survey_whole.new.disk in
    let place = c.in-Ok.found.place in
    let found = subst (λ (o : Option Whole). SurveysWholeOr (D.seen c.args.disk.now) place o) c.in-Some.is (c.in-Ok.ensures.ok honest) in
    let surveyed : SurveysWhole (D.seen mid) place c.in-Some.whole = subst (λ (bytes : List ℕ). SurveysWhole bytes place c.in-Some.whole) (sym c.survey_whole.ensures.looked.content) found in
    ok_map c.store_above.result (c.store_above.ensures.spoils (c.survey_whole.ensures.looked.same ∙ honest) surveyed) (λ s are. subst (λ (bytes : List ℕ). SpoilsAreThere bytes s) c.survey_whole.ensures.looked.content are)

pub returns-in-Some-clause-basis : goal.returns-in-Some-clause-basis
returns-in-Some-clause-basis g c = ok_map c.store_above.result c.store_above.ensures.outset (λ s is honest. (refl, is.0, is.1))

pub returns-in-Some-clause-err : goal.returns-in-Some-clause-err
returns-in-Some-clause-err g c =
    let D = g.D.Disk in
    let first = c.args.disk.now in
    let place = c.in-Ok.found.place in
    let surveyed = λ (honest : IsTrue (D.honest first)). subst (λ (o : Option Whole). SurveysWholeOr (D.seen first) place o) c.in-Some.is (c.in-Ok.ensures.ok honest) in
    err_map c.store_above.result c.store_above.ensures.err (λ r why. refused_above D first c.survey_whole.new.disk c.store_above.new.disk c.survey_whole.ensures.looked place c.in-Some.whole surveyed r why)

-- ---- on nothing

pub returns-in-Ok-store_on_nothing-clause-ok : goal.returns-in-Ok-store_on_nothing-clause-ok
returns-in-Ok-store_on_nothing-clause-ok g c = λ honest content reads layered.
    let D = g.D.Disk in
    let mid = c.survey_whole.new.disk in
    let place = c.in-Ok.found.place in
    let none = subst (λ (o : Option Whole). SurveysWholeOr (D.seen c.args.disk.now) place o) c.in-None.is (c.in-Ok.ensures.ok honest) in
    let keeps : KeepsNone (D.seen mid) place = subst (λ (bytes : List ℕ). KeepsNone bytes place) (sym c.survey_whole.ensures.looked.content) none in
    opened_of (D.seen mid) (D.may_leave mid) c.in-Ok-store_on_nothing.store (c.in-Ok-store_on_nothing.ensures.found (D.seen mid) keeps)

pub returns-in-Ok-store_on_nothing-clause-surveyed : goal.returns-in-Ok-store_on_nothing-clause-surveyed
returns-in-Ok-store_on_nothing-clause-surveyed g c = λ honest.
    let none : KeepsNone (g.D.Disk.seen c.args.disk.now) c.in-Ok.found.place = subst (λ (o : Option Whole). SurveysWholeOr (g.D.Disk.seen c.args.disk.now) c.in-Ok.found.place o) c.in-None.is (c.in-Ok.ensures.ok honest) in
    inl none.serves.still

pub returns-in-Ok-store_on_nothing-clause-spoils : goal.returns-in-Ok-store_on_nothing-clause-spoils
returns-in-Ok-store_on_nothing-clause-spoils g c = λ honest. bare_spoils (g.D.Disk.seen c.args.disk.now) c.in-Ok-store_on_nothing.store c.in-Ok-store_on_nothing.ensures.bare

pub returns-in-Ok-store_on_nothing-clause-basis : goal.returns-in-Ok-store_on_nothing-clause-basis
returns-in-Ok-store_on_nothing-clause-basis g c = λ honest. let is = c.in-Ok-store_on_nothing.ensures.outset in (refl, is.0, is.1)
