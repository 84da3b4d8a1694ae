use Rattle.std.proofs.Common.{◌<◌, ℕ}
use Rattle.block_mgr.specs.Open.{Agree, found_at}
use Rattle.block_mgr.proofs.open.first_clash.Given as goal

abbrev pub invariant-loop-j : goal.invariant-loop-j
invariant-loop-j l = (k : ℕ) → k < l.j → Agree (found_at l.found k) (found_at l.found l.i)
