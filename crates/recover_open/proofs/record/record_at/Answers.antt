use Rattle.std.proofs.Common.{subst, refl}
use Rattle.std.proofs.lemmas.Bool.{both_ways}
use Rattle.stored.specs.Records.{Record}
use Rattle.recover_open.specs.Bare.{IsBare}
use Rattle.recover_open.proofs.Steps.{at_fault, has_history}
use Rattle.recover_open.proofs.Sole.{same_names}
use Rattle.recover_open.proofs.record.record_at.Goals as goal

pub returns-in-Err-clause-err : goal.returns-in-Err-clause-err
returns-in-Err-clause-err g c = at_fault _ _ (g.D.Disk.seen c.args.disk.now) c.in-Err.refusal c.in-Err.ensures.err

pub returns-in-Err-clause-sole : goal.returns-in-Err-clause-sole
returns-in-Err-clause-sole g c h (r, names, bare) = c.in-Err.ensures.sole h (r, names)

pub returns-then-is_bare-clause-sound : goal.returns-then-is_bare-clause-sound
returns-then-is_bare-clause-sound g c = record { is_record = c.in-Ok.ensures.own.is_record; sequence = c.in-Ok.ensures.own.sequence; bare = c.is_bare.ensures.0 c.if-is_bare.true }

pub returns-else-is_bare-clause-err : goal.returns-else-is_bare-clause-err
returns-else-is_bare-clause-err g c =
    has_history _ _ (g.D.Disk.seen c.args.disk.now) c.args.slot c.in-Ok.found _ refl (λ h. c.in-Ok.ensures.ok h.0 h.1) (λ bare. both_ways c.is_bare.result c.if-is_bare.false (c.is_bare.ensures.1 bare))

pub returns-else-is_bare-clause-sole : goal.returns-else-is_bare-clause-sole
returns-else-is_bare-clause-sole g c h (r, names, bare) =
    let same = same_names (g.D.Disk.seen c.args.disk.now) c.args.slot r c.in-Ok.found names (c.in-Ok.ensures.ok h names.chosen) in
    absurd (both_ways c.is_bare.result c.if-is_bare.false (c.is_bare.ensures.1 (subst (λ (x : Record). IsBare x) same bare)))
