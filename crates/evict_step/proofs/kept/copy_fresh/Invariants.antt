use Rattle.std.proofs.Common.{◌≡◌, ◌++◌, take}
use Rattle.evict_step.specs.Kept.{fresh_of}
use Rattle.evict_step.proofs.kept.copy_fresh.Given as goal

abbrev pub invariant-loop-f : goal.invariant-loop-f
invariant-loop-f l = l.copies.items ≡ l.fn.copies.items ++ fresh_of (take l.f-index l.fresh) l.leaf
