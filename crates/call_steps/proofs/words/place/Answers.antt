use Rattle.std.proofs.Common.{arith}
use Rattle.call_steps.specs.State.{placed}
use Rattle.call_steps.proofs.Cursors.{changed_set, changed_past}
use Rattle.call_steps.proofs.words.place.Goals as goal

pub returns-then-at-cursors : goal.returns-then-at-cursors
returns-then-at-cursors c = changed_set c.args.cursor (placed c.args.position) c.args.cursors.now c.index-cursors-at.result (omega (arith, c.if-at-cursors.true))

pub returns-else-at-cursors : goal.returns-else-at-cursors
returns-else-at-cursors c = changed_past c.args.cursor (placed c.args.position) c.args.cursors.now (omega (arith, c.if-at-cursors.false))
