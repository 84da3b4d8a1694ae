use Rattle.std.proofs.Common.{◌≡◌, true, take}
use Rattle.script_run.specs.Lines.{is_unbroken}
use Rattle.script_run.proofs.lines.newline_at.Given as goal

abbrev pub invariant-loop-i : goal.invariant-loop-i
invariant-loop-i l = is_unbroken (take l.i l.piece) ≡ true
