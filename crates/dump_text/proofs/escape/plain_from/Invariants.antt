use Rattle.std.proofs.Common.{◌≡◌, take}
use Rattle.item.specs.Escapes.{escaped}
use Rattle.dump_text.proofs.escape.plain_from.Given as goal

abbrev pub invariant-loop-i : goal.invariant-loop-i
invariant-loop-i l = escaped (take l.i l.bytes) ≡ take l.i l.bytes
