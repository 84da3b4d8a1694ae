use Rattle.std.proofs.Common.{◌≡◌, ◌≤◌, take, vec_len}
use Rattle.ordered_groups.specs.Groups.{entries}
use Rattle.tree_dir.specs.Order.{IsWay}
use Rattle.tree_dir.proofs.adding.take_back.Given as goal

abbrev pub invariant-loop-slots : goal.invariant-loop-slots
invariant-loop-slots l = record {
  way : IsWay l.slots.items (entries l.order);
  front : take l.count l.slots.items ≡ take l.count l.fn.slots.items;
  long : l.count ≤ vec_len l.slots;
}

abbrev pub decreases-loop-slots : goal.decreases-loop-slots
decreases-loop-slots l = vec_len l.slots
