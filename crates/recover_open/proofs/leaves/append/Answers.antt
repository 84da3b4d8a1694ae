use Rattle.recover_open.proofs.Keys.{none_moved, next_above, next_fits, row_moved, row_left}
use Rattle.recover_open.proofs.leaves.append.Goals as goal

pub loop-row-init : goal.loop-row-init
loop-row-init c = record { moved = none_moved c.args.rows.now; left = c.into_iter-row-iterator.ensures.into_iter_gives.0 }

pub push-requires-clause-fits : goal.push-requires-clause-fits
push-requires-clause-fits c = next_fits c.loop-row.yielded c.next.new.self.rest.items c.loop-row.row-iterator.rest.items c.args.more.items c.in-Some.row c.in-Some.ensures.steps.0 c.loop-row.invariant.left c.requires.fit

pub push-requires-clause-above : goal.push-requires-clause-above
push-requires-clause-above c =
    next_above c.loop-row.yielded c.next.new.self.rest.items c.loop-row.row-iterator.rest.items c.args.more.items c.in-Some.row c.in-Some.ensures.steps.0 c.loop-row.invariant.left c.args.rows.now c.loop-row.rows c.requires.ascend c.loop-row.invariant.moved

pub loop-row-preserved : goal.loop-row-preserved
loop-row-preserved c = record {
  moved = row_moved c.args.rows.now c.loop-row.yielded c.loop-row.rows c.push.new.self c.in-Some.row c.loop-row.invariant.moved c.in_ok-push.ensures.pushed;
  left = row_left c.loop-row.yielded c.next.new.self.rest.items c.loop-row.row-iterator.rest.items c.args.more.items c.in-Some.row c.in-Some.ensures.steps.0 c.loop-row.invariant.left;
}
