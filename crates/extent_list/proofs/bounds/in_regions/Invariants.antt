use Rattle.std.proofs.Common.{◌≡◌, ◌*◌, length}
use Rattle.extent_list.specs.Units.{Grouped, Misses}
use Rattle.extent_list.proofs.bounds.in_regions.Given as goal

abbrev pub invariant-loop-r : goal.invariant-loop-r
invariant-loop-r l = record {
  misses : Misses l.units (4096 * l.fn.from) (4096 * l.r) l.count l.longest;
  grouped : Grouped l.units l.groups.items l.regions.items;
  len : length l.regions.items ≡ length l.initial.regions.items;
}
