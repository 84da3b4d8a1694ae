use Rattle.std.proofs.Common.{arith}
use Rattle.engine_store.proofs.Over.{over_all, over_more}
use Rattle.engine_store.proofs.places.trees_over.Goals as goal

pub loop-place-preserved : goal.loop-place-preserved
loop-place-preserved c =
    over_more c.args.tables.now c.args.uppers.now c.loop-place.place c.loop-place.trees.items c.put.new.trees.items c.in_ok-tree.tree c.index-tables-place.result c.root_of.result c.index-uppers-place.result c.loop-place-test.true
    (omega (arith, c.requires, c.loop-place-test.true)) c.index-tables-place.is c.index-uppers-place.is c.root_of.ensures c.loop-place.invariant c.in_ok-tree.ensures c.in_ok-put.ensures

pub returns : goal.returns
returns c = over_all c.args.tables.now c.args.uppers.now c.loop-place.place c.loop-place.trees.items c.requires c.loop-place-test.false c.loop-place.invariant
