use Rattle.std.proofs.Common.{◌≡◌, ◌++◌, map, take, drop}
use Rattle.recover_open.specs.Bare.{kept_of}
use Rattle.recover_open.proofs.trees.keep_all.Given as goal

abbrev pub invariant-loop-rows : goal.invariant-loop-rows
invariant-loop-rows l = l.leaves ≡ map (kept_of l.found) (take l.rows-index l.initial.leaves) ++ drop l.rows-index l.initial.leaves
