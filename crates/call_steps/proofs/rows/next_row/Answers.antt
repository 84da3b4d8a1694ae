use Rattle.call_steps.proofs.RowWalk.{fewer_ahead, walk_ends, walk_finds, walk_goes_on, walk_is_through, walk_stays}
use Rattle.call_steps.proofs.rows.next_row.Goals as goal

pub loop-held-smaller : goal.loop-held-smaller
loop-held-smaller c = fewer_ahead c.args.view.now c.loop-held.walk c.next_held.new.self c.in-Some.held c.in-Some.ensures.held c.in-Some.ensures.behind c.next_held.ensures.way c.next_held.ensures.leaf

pub loop-held-preserved : goal.loop-held-preserved
loop-held-preserved c =
    walk_goes_on c.args.view.now c.args.walk.now c.loop-held.walk c.next_held.new.self c.in-Some.held c.loop-held.invariant c.in-Some.ensures.held c.in-Some.ensures.behind c.next_held.ensures.way c.next_held.ensures.leaf c.in_default-row_of.ensures

pub returns-in-Some-row_of : goal.returns-in-Some-row_of
returns-in-Some-row_of c = record {
  found = walk_finds c.args.view.now c.args.walk.now c.loop-held.walk c.in-Some.held c.in-Some-row_of.found c.loop-held.invariant c.in-Some.ensures.held c.in-Some-row_of.ensures;
  behind = walk_stays c.args.view.now c.args.walk.now c.loop-held.walk c.next_held.new.self c.in-Some.held c.in-Some-row_of.found c.loop-held.invariant c.in-Some.ensures.held c.in-Some.ensures.behind c.next_held.ensures.way c.next_held.ensures.leaf
      c.in-Some-row_of.ensures;
}

pub returns : goal.returns
returns c = record {
  found = walk_ends c.args.view.now c.args.walk.now c.loop-held.walk c.loop-held.invariant c.in_default.ensures.held;
  behind = walk_is_through c.args.view.now c.args.walk.now c.loop-held.walk c.next_held.new.self c.loop-held.invariant c.in_default.ensures.behind c.next_held.ensures.way c.next_held.ensures.leaf;
}
