use Rattle.std.proofs.Common.{◌-◌}
use Rattle.extent_list.specs.Units.{Run}
use Rattle.extent_list.proofs.scan.are_free.Given as goal

abbrev pub invariant-loop-u : goal.invariant-loop-u
invariant-loop-u l = Run l.units l.fn.from (l.u - l.fn.from)
