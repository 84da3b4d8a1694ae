use Rattle.std.proofs.Common.{inl, inr, subst, Option}
use Rattle.recover_open.specs.declared.wholes.Whole.{Whole}
use Rattle.recover_open.specs.Wholes.{SurveysWholeOr}
use Rattle.device_read.proofs.Numbers.{numbers_had, numbers_refused}
use Rattle.device_read.proofs.Spoilt.{numbers_none, numbers_one, survey_sole}
use Rattle.device_read.proofs.opening.open.Goals as goal

pub returns-in-Err-clause-err : goal.returns-in-Err-clause-err
returns-in-Err-clause-err g c = inl c.in-Err.ensures.err

pub returns-in-Err-clause-sole : goal.returns-in-Err-clause-sole
returns-in-Err-clause-sole g c h can = survey_sole _ _ (g.D.Disk.seen c.args.disk.now) c.in-Err.refusal h can c.in-Err.ensures.err (λ place w surveyed. c.in-Err.ensures.sole h (place, w, surveyed))

pub returns-in-Ok-reader_of-clause-ok : goal.returns-in-Ok-reader_of-clause-ok
returns-in-Ok-reader_of-clause-ok g c h =
    inr (c.in-Ok.found.place, c.in-Some.whole, subst (λ (o : Option Whole). SurveysWholeOr (g.D.Disk.seen c.args.disk.now) c.in-Ok.found.place o) c.in-Some.is (c.in-Ok.ensures.ok h), c.in-Ok-reader_of.ensures)

pub returns-in-Ok-reader_of-clause-numbers : goal.returns-in-Ok-reader_of-clause-numbers
returns-in-Ok-reader_of-clause-numbers g c h s on =
    numbers_had (g.D.Disk.seen c.args.disk.now) c.in-Ok.found.place c.in-Some.whole s (subst (λ (o : Option Whole). SurveysWholeOr (g.D.Disk.seen c.args.disk.now) c.in-Ok.found.place o) c.in-Some.is (c.in-Ok.ensures.ok h)) c.in-Ok-check_numbers.ensures.ok on

pub returns-in-Ok-reader_of-clause-surveyed : goal.returns-in-Ok-reader_of-clause-surveyed
returns-in-Ok-reader_of-clause-surveyed g c h =
    numbers_one (g.D.Disk.seen c.args.disk.now) c.in-Ok.found.place c.in-Some.whole (subst (λ (o : Option Whole). SurveysWholeOr (g.D.Disk.seen c.args.disk.now) c.in-Ok.found.place o) c.in-Some.is (c.in-Ok.ensures.ok h)) c.in-Ok-check_numbers.ensures.ok

pub returns-in-Err-check_numbers-clause-err : goal.returns-in-Err-check_numbers-clause-err
returns-in-Err-check_numbers-clause-err g c =
    numbers_refused _ _ (g.D.Disk.seen c.args.disk.now) c.in-Ok.found.place c.in-Some.whole c.in-Err-check_numbers.refusal
    (λ h. subst (λ (o : Option Whole). SurveysWholeOr (g.D.Disk.seen c.args.disk.now) c.in-Ok.found.place o) c.in-Some.is (c.in-Ok.ensures.ok h)) c.in-Err-check_numbers.ensures.err

pub returns-in-Err-check_numbers-clause-sole : goal.returns-in-Err-check_numbers-clause-sole
returns-in-Err-check_numbers-clause-sole g c h can =
    inr (c.in-Ok.found.place, c.in-Some.whole, subst (λ (o : Option Whole). SurveysWholeOr (g.D.Disk.seen c.args.disk.now) c.in-Ok.found.place o) c.in-Some.is (c.in-Ok.ensures.ok h), c.in-Err-check_numbers.ensures.err)

pub returns-in-None-clause-surveyed : goal.returns-in-None-clause-surveyed
returns-in-None-clause-surveyed g c h =
    let none = subst (λ (o : Option Whole). SurveysWholeOr (g.D.Disk.seen c.args.disk.now) c.in-Ok.found.place o) c.in-None.is (c.in-Ok.ensures.ok h) in
    numbers_none (g.D.Disk.seen c.args.disk.now) none.serves.still
