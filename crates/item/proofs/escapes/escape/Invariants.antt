use Rattle.std.proofs.Common.{◌≡◌, ◌++◌, length}
use Rattle.item.specs.Escapes.{escaped}
use Rattle.item.proofs.escapes.escape.Given as goal

abbrev pub invariant-loop-out : goal.invariant-loop-out
invariant-loop-out l = l.out.items ++ escaped l.rest ≡ escaped l.item

abbrev pub decreases-loop-out : goal.decreases-loop-out
decreases-loop-out l = length l.rest
