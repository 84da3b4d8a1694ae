use Rattle.latch_table.specs.Tables.{SameSeat}
use Rattle.hazard_law.specs.Words.{locked}
use Rattle.pool_trials.specs.Trials.{HasOwnLocked, IsKeeper}
use Rattle.pool_trials.proofs.keep.scan_all.Given as goal

abbrev pub invariant-loop-place : goal.invariant-loop-place
invariant-loop-place l = IsKeeper l.pool.pieces l.seat (locked l.g) × SameSeat l.initial.seat l.seat × HasOwnLocked l.seat l.g l.place
