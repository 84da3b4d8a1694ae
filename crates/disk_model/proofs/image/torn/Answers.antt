use Rattle.std.proofs.Common.{arith, length, ◌≤◌}
use Rattle.std.proofs.lemmas.Grind.{common_steps}
use Rattle.disk_model.proofs.Torn.{torn_within_ok}
use Rattle.disk_model.proofs.image.torn.Goals as goal
use Rattle.disk_model.proofs.image.torn.Goals.{in-3, in-5, in-6}

pub returns-in-2 : goal.returns-in-2
returns-in-2 c = torn_within_ok _ _ _ _ _ _ c.patched-in-2.ensures (omega arith) (grind (arith, common_steps))

pub returns-in-4 : goal.returns-in-4
returns-in-4 c = torn_within_ok _ _ _ _ _ _ c.patched-in-4.ensures (omega arith) (grind (arith, common_steps))

pub returns-in_default : goal.returns-in_default
returns-in_default c = torn_within_ok _ _ _ _ _ _ c.patched-in_default.ensures (omega arith) (omega arith)

pub returns : goal.returns
returns c =
    let short : c.match-outcome.part ≤ length c.args.bytes.now = elim c.match-outcome.branch [ in-3 w ↦ grind (arith, common_steps) | in-5 w ↦ grind (arith, common_steps) | in-6 w ↦ grind (arith, common_steps) ] in
    torn_within_ok _ _ _ _ _ _ c.patched-2.ensures (omega arith) (grind (arith, common_steps))
