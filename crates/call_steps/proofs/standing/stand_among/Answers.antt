use Rattle.std.proofs.Common.{◌∙◌, Option, Some, ap, arith, get_or, set}
use Rattle.call_steps.specs.declared.cursor.Position.{Position}
use Rattle.call_steps.specs.State.{placed}
use Rattle.call_steps.proofs.Cursors.{changed_past, changed_set}
use Rattle.call_steps.proofs.standing.stand_among.Goals as goal

pub returns-in_ok-stand-clause-stands : goal.returns-in_ok-stand-clause-stands
returns-in_ok-stand-clause-stands c =
    let k = c.index-cursors-at.result in
    ap (λ (o : Option Position). set c.args.cursors.now c.args.cursor (placed o (get_or c.args.cursors.now c.args.cursor k))) c.in_ok-stand.ensures.stands
    ∙ changed_set c.args.cursor (placed (Some (record { table = c.args.table; key = c.args.key.now }))) c.args.cursors.now k (omega (arith, c.if-at-cursors.true))

pub returns-else-at-cursors-clause-stands : goal.returns-else-at-cursors-clause-stands
returns-else-at-cursors-clause-stands c = changed_past c.args.cursor (placed (Some (record { table = c.args.table; key = c.args.key.now }))) c.args.cursors.now (omega (arith, c.if-at-cursors.false))
