use Rattle.std.proofs.Common.{◌≡◌, ◌-◌, drop}
use Rattle.checkpoint_record.specs.Rules.{names_ascend}
use Rattle.checkpoint_record.proofs.rules.names_ascend.Given as goal

abbrev pub invariant-loop-i : goal.invariant-loop-i
invariant-loop-i l = names_ascend (drop (l.i - 1) l.tables) ≡ names_ascend l.tables
