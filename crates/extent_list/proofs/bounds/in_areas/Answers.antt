use Rattle.std.proofs.Common.{arith}
use Rattle.extent_list.proofs.RunLemmas.{run_within}
use Rattle.extent_list.proofs.bounds.in_areas.Goals as goal

pub returns-clause-none : goal.returns-clause-none
returns-clause-none c none at run =
    c.loop-index.invariant.none at (omega arith) (omega (arith, run_within c.args.units.now at c.args.count c.requires.some run, c.requires.summed.grouped.has_groups, c.requires.summed.grouped.has_regions, c.requires.summed.has_areas, c.requires.some, c.loop-index-test.false, c.len-index-end.ensures)) run
