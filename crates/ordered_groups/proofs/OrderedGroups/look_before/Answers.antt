use Rattle.std.proofs.Common.{◌≡◌, ◌+◌, ◌<◌, ◌∙◌, sym, ap, subst, arith, length}
use Rattle.ordered_groups.specs.Groups.{entries}
use Rattle.ordered_groups.specs.Places.{rank, BelowUpTo}
use Rattle.ordered_groups.proofs.Entries.{group_in, in_list}
use Rattle.ordered_groups.proofs.Find.{above_from_one, below_from_one}
use Rattle.ordered_groups.proofs.OrderedGroups.look_before.Goals as goal

pub returns-in_default-clause-found : goal.returns-in_default-clause-found
returns-in_default-clause-found g c ord a here rises =
    let gs = c.args.self.now in
    let none : rank gs c.args.above ≡ 0 = c.in_default.ensures in (
      λ k d from to. absurd (omega (arith, to, none)),
      above_from_one ord (entries gs) (rank gs c.args.above) rises here,
    )

pub returns-in-Less-clause-found : goal.returns-in-Less-clause-found
returns-in-Less-clause-found g c ord a here rises =
    let gs = c.args.self.now in
    let p = c.in-Some.before in
    let is : rank gs p + 1 ≡ rank gs c.args.above = c.in-Some.ensures.1 in
    let within = in_list gs p.group p.at (group_in gs p.group p.at c.in-Some.ensures.0) c.in-Some.ensures.0 in
    let below = below_from_one ord (entries gs) (rank gs p) rises within (λ d. ap ord (sym (c.get-entry.ensures d)) ∙ (sym (a c.get-entry.result c.order.result c.order.ensures) ∙ c.in-Less.is)) in (
      subst (λ m. BelowUpTo ord (entries gs) m) is below,
      above_from_one ord (entries gs) (rank gs c.args.above) rises here,
    )
