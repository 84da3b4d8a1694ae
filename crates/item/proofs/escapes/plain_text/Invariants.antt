use Rattle.std.proofs.Common.{◌≡◌, take, drop}
use Rattle.item.specs.Escapes.{unescaped, reads_on}
use Rattle.item.specs.declared.escapes.Reading.TheVariants.{AtByte}
use Rattle.item.proofs.escapes.plain_text.Given as goal

abbrev pub invariant-loop-i : goal.invariant-loop-i
invariant-loop-i l = unescaped l.text ≡ reads_on (take l.i l.text) AtByte (drop l.i l.text)
