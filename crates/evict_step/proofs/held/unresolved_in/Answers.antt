use Rattle.std.proofs.Common.{◌≡◌, [], subst}
use Rattle.std.specs.Prelude.{Some, slice_get}
use Rattle.evict_step.proofs.HeldSeen.{RowsSeen, all-seen, rows-unseen, updates-unseen}
use Rattle.evict_step.proofs.held.unresolved_in.Goals as goal

pub returns-in-Some-clause-some : goal.returns-in-Some-clause-some
returns-in-Some-clause-some c = updates-unseen c.args.live.now.sight c.args.leaf.now c.in-Some.id c.in-Some.ensures

pub returns-in-None-clause-none : goal.returns-in-None-clause-none
returns-in-None-clause-none c = λ is. all-seen c.args.live.now.sight c.args.leaf.now c.in_default.ensures
    (subst (RowsSeen c.args.live.now.sight) c.in-None.ensures.rows (λ i r at. let none : slice_get [] i ≡ Some r = at in absurd (cc)))

pub returns-in-Some-page-clause-none : goal.returns-in-Some-page-clause-none
returns-in-Some-page-clause-none c = λ is. all-seen c.args.live.now.sight c.args.leaf.now c.in_default.ensures (subst (RowsSeen c.args.live.now.sight) c.in-Some-page.ensures.rows (c.row_unseen.ensures.none is))

pub returns-in-Some-page-clause-some : goal.returns-in-Some-page-clause-some
returns-in-Some-page-clause-some c = rows-unseen c.args.live.now.sight c.args.leaf.now c.in-Some-page.page.now c.row_unseen.result c.in-Some-page.ensures.rows c.page.ensures.fit c.in_default.ensures c.row_unseen.ensures.some
