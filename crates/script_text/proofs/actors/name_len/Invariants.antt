use Rattle.std.proofs.Common.{◌≡◌, ◌++◌, take, drop}
use Rattle.script_text.specs.Actors.{before_mark, from_mark}
use Rattle.script_text.proofs.actors.name_len.Given as goal

abbrev pub invariant-loop-i : goal.invariant-loop-i
invariant-loop-i l = record {
  name : take l.i l.word ++ before_mark (drop l.i l.word) ≡ before_mark l.word;
  mark : from_mark (drop l.i l.word) ≡ from_mark l.word;
}
