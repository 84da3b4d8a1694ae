use Rattle.std.proofs.Common.{◌≡◌, ◌*◌, length}
use Rattle.extent_list.specs.Units.{Bounds, Misses}
use Rattle.extent_list.proofs.bounds.in_groups.Given as goal

abbrev pub invariant-loop-g : goal.invariant-loop-g
invariant-loop-g l = record {
  misses : Misses l.units (64 * l.fn.from) (64 * l.g) l.count l.longest;
  bounds : Bounds 64 l.units l.groups.items;
  len : length l.groups.items ≡ length l.initial.groups.items;
}
