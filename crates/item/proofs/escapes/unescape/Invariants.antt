use Rattle.std.proofs.Common.{◌≡◌, length}
use Rattle.item.specs.Escapes.{unescaped, reads_on, IsSmall}
use Rattle.item.proofs.escapes.unescape.Given as goal

abbrev pub invariant-loop-out : goal.invariant-loop-out
invariant-loop-out l = record {
  bytes : unescaped l.text ≡ reads_on l.out.items l.reading l.rest;
  small : IsSmall l.reading;
}

abbrev pub decreases-loop-out : goal.decreases-loop-out
decreases-loop-out l = length l.rest
