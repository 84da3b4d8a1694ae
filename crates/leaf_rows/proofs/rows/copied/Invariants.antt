use Rattle.std.proofs.Common.{◌≡◌, take}
use Rattle.leaf_rows.proofs.rows.copied.Given as goal

abbrev pub invariant-loop-i : goal.invariant-loop-i
invariant-loop-i l = l.rows.items ≡ take l.i l.leaf
