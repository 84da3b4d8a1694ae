use Rattle.std.proofs.Common.{◌<◌, ◌^◌, ℕ, List, rules, sym, subst, arith}
use Rattle.snapshot.specs.Sight.{sight_of}
use Rattle.stored.specs.Records.{SnapshotFits}
use Rattle.ckpt_step.proofs.RecordsFit.{snapshot_fits}
use Rattle.ckpt_step.proofs.record.kept_of.Goals as goal

max_fits : (c : goal.In_ok-from_slice) → c.view-view.result.max < 2 ^ 64
max_fits c = search rules

pub returns-clause-fits : goal.returns-clause-fits
returns-clause-fits c =
    let few = c.if-view-gt-SESSIONS_MAX.false in
    subst (λ (l : List ℕ). SnapshotFits (record { min = c.view-view.result.min; max = c.view-view.result.max; ids = l })) (sym c.in_ok-from_slice.ensures.items)
    (snapshot_fits (sight_of c.view-view.result) c.view-view.ensures.lent (max_fits c) (omega (arith, few)))
