use Rattle.std.proofs.Common.{◌∙◌, ℕ, List, take, ap, subst}
use Rattle.ordered_groups.specs.Groups.{entries}
use Rattle.tree_dir.specs.declared.leaf.Leaf.{Leaf}
use Rattle.tree_dir.specs.Order.{IsWay}
use Rattle.tree_dir.proofs.SameOrder.{one-way}
use Rattle.tree_dir.proofs.adding.add_leaves.Goals as goal

pub returns-in-Err-clause-kept : goal.returns-in-Err-clause-kept
returns-in-Err-clause-kept c =
    let slots = c.args.slots.now.items in
    let after = entries c.take_back.new.order in
    let same = c.take_back.ensures.slots ∙ (ap (λ (k : ℕ). take k c.add_each.new.slots.items) c.len-count.ensures ∙ c.in-Err.ensures.front) in
    let way = subst (λ (s : List Leaf). IsWay s after) same c.take_back.ensures.way in
    (same, one-way slots after (entries c.args.order.now) way c.requires.way)
