use Rattle.std.proofs.Common.{◌≡◌, ◌≤◌, drop}
use Rattle.script_text.specs.Numbers.{number_from}
use Rattle.script_text.proofs.numbers.number_from.Given as goal

abbrev pub invariant-loop-digit : goal.invariant-loop-digit
invariant-loop-digit l = record {
  small : l.value ≤ l.most;
  number : number_from l.most l.value (drop l.digit-index l.digits) ≡ number_from l.most 0 l.digits;
}
