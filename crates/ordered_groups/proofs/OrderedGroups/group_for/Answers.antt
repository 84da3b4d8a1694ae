use Rattle.std.proofs.Common.{◌≡◌, ◌∙◌, ap}
use Rattle.ordered_groups.specs.Groups.{lists}
use Rattle.ordered_groups.proofs.Lists.{length_lists}
use Rattle.ordered_groups.proofs.OrderedGroups.group_for.Goals as goal

pub returns : goal.returns
returns g c =
    let e : lists c.deref.result.now ≡ c.args.self.now = ap lists c.deref.ensures.value ∙ c.self.view_is in
    let n = length_lists c.deref.result.now in
    rw (← e) (record {
      bound = rw n c.group_of.ensures.bound;
      below = c.group_of.ensures.below;
      here = c.group_of.ensures.here;
    })
