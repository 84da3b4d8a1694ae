use Rattle.std.proofs.Common.{◌≡◌, ◌<◌, ◌^◌, drop}
use Rattle.script_text.specs.Numbers.{stamp_from}
use Rattle.script_text.proofs.numbers.stamp_from.Given as goal

abbrev pub invariant-loop-digit : goal.invariant-loop-digit
invariant-loop-digit l = record {
  small : l.value < 16 ^ l.digit-index;
  number : stamp_from l.value (drop l.digit-index l.digits) ≡ stamp_from 0 l.digits;
}
