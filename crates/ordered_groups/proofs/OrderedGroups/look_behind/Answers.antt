use Rattle.std.proofs.Common.{◌≡◌, ◌+◌, ◌<◌, ◌∙◌, sym, ap, subst, arith, length}
use Rattle.ordered_groups.specs.Groups.{entries}
use Rattle.ordered_groups.specs.Places.{rank, BelowUpTo}
use Rattle.ordered_groups.proofs.Entries.{group_in, in_list}
use Rattle.ordered_groups.proofs.Find.{above_from_one, below_from_one, gap_at_end}
use Rattle.ordered_groups.proofs.OrderedGroups.look_behind.Goals as goal

pub returns-in_default-clause-found : goal.returns-in_default-clause-found
returns-in_default-clause-found g c ord a here rises =
    let gs = c.args.self.now in
    let r = rank gs c.args.below in
    let n : r + 1 ≡ length (entries gs) = c.in_default.ensures in
    let below = below_from_one ord (entries gs) r rises (omega (arith, n)) here in
    gap_at_end ord (entries gs) (rank gs c.end.result) c.end.ensures.rank (subst (λ m. BelowUpTo ord (entries gs) m) (n ∙ sym c.end.ensures.rank) below)

pub returns-in-Greater-clause-found : goal.returns-in-Greater-clause-found
returns-in-Greater-clause-found g c ord a here rises =
    let gs = c.args.self.now in
    let r = rank gs c.args.below in
    let p = c.in-Some.next in
    let is : rank gs p ≡ r + 1 = c.in-Some.ensures.1 in
    let within = in_list gs p.group p.at (group_in gs p.group p.at c.in-Some.ensures.0) c.in-Some.ensures.0 in (
      subst (λ m. BelowUpTo ord (entries gs) m) (sym is) (below_from_one ord (entries gs) r rises (omega (arith, within, is)) here),
      above_from_one ord (entries gs) (rank gs p) rises (λ d. ap ord (sym (c.get-entry.ensures d)) ∙ (sym (a c.get-entry.result c.order.result c.order.ensures) ∙ c.in-Greater.is)),
    )
