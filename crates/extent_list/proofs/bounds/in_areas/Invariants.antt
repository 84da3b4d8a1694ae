use Rattle.std.proofs.Common.{◌≡◌, ◌*◌, length}
use Rattle.extent_list.specs.Units.{Summed, NoneFits}
use Rattle.extent_list.proofs.bounds.in_areas.Given as goal

abbrev pub invariant-loop-index : goal.invariant-loop-index
invariant-loop-index l = record {
  none : NoneFits l.units 0 (262144 * l.index) l.count;
  summed : Summed l.units l.groups.items l.regions.items l.areas.items;
  len : length l.areas.items ≡ length l.initial.areas.items;
}
