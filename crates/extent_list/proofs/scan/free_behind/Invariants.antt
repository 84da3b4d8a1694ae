use Rattle.std.proofs.Common.{◌-◌, ◌≤◌, length}
use Rattle.extent_list.proofs.scan.free_behind.Given as goal

abbrev pub invariant-loop-stop : goal.invariant-loop-stop
invariant-loop-stop l = record { order : l.at ≤ l.stop; within : l.stop ≤ length l.units }

abbrev pub decreases-loop-stop : goal.decreases-loop-stop
decreases-loop-stop l = length l.units - l.stop
