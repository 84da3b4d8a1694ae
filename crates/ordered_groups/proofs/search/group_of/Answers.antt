use Rattle.std.proofs.Common.{◌≡◌, ◌+◌, ◌-◌, ◌/◌, ◌<◌, ◌∙◌, sym, ap, arith, length}
use Rattle.ordered_groups.specs.Groups.{lists}
use Rattle.ordered_groups.proofs.Lists.{length_lists}
use Rattle.ordered_groups.proofs.Find.{below_group, less_from_lt}
use Rattle.ordered_groups.proofs.search.group_of.Goals as goal

pub loop-low-preserved-then-is_lt : goal.loop-low-preserved-then-is_lt
loop-low-preserved-then-is_lt g c =
    let middle = c.loop-low.low + (c.loop-low.high - c.loop-low.low) / 2 in
    let w : middle < length c.args.groups.now = omega (arith, c.loop-low-test.true, c.loop-low.invariant.bound) in
    let within : middle < length (lists c.args.groups.now) = rw (length_lists c.args.groups.now) w in
    let less = less_from_lt c.order.result (sym c.is_lt.ensures ∙ c.if-is_lt.true) in
    record {
      order = omega (arith, c.loop-low-test.true);
      bound = c.loop-low.invariant.bound;
      below = λ ord a rises. below_group ord (lists c.args.groups.now) middle within c.requires.sound rises (λ d. ap ord (sym (c.last_of-entry.ensures d)) ∙ (sym (a c.last_of-entry.result c.order.result c.order.ensures) ∙ less));
      here = c.loop-low.invariant.here;
    }

pub returns-clause-here : goal.returns-clause-here
returns-clause-here g c ord a lt =
    let e : c.loop-low.low ≡ c.loop-low.high = omega (arith, c.loop-low-test.false, c.loop-low.invariant.order) in
    rw e (c.loop-low.invariant.here ord a (omega (arith, lt, e, length_lists c.args.groups.now)))
