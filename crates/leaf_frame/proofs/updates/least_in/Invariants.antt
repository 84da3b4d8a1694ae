use Rattle.std.proofs.Common.{◌≡◌, drop}
use Rattle.leaf_frame.specs.Updates.{least_in, lesser}
use Rattle.leaf_frame.proofs.updates.least_in.Given as goal

abbrev pub invariant-loop-place : goal.invariant-loop-place
invariant-loop-place l = lesser l.least (least_in l.live.sight (drop l.place l.chain)) ≡ least_in l.live.sight l.chain
