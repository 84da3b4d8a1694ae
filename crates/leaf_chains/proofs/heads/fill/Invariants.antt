use Rattle.std.proofs.Common.{◌≡◌, length}
use Rattle.leaf_chains.specs.Heads.{AreHeads}
use Rattle.leaf_chains.proofs.heads.fill.Given as goal

abbrev pub invariant-loop-i : goal.invariant-loop-i
invariant-loop-i l = AreHeads l.front l.words.items l.slots × (length l.words.items ≡ l.i)
