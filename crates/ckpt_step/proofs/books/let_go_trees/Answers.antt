use Rattle.std.proofs.Common.{◌∙◌, ◌<◌, length, ap, arith, subst, sym}
use Rattle.block_mgr.specs.Blocks.{Books}
use Rattle.block_mgr.specs.Cells.{AreUnits, cell_at}
use Rattle.extent_list.specs.Space.{end_of}
use Rattle.tree_open.specs.declared.place.TreePlace.{TreePlace}
use Rattle.ckpt_step.proofs.Left.{gone_more, stay_more}
use Rattle.ckpt_step.proofs.Members.{get_within}
use Rattle.ckpt_step.proofs.books.let_go_trees.Goals as goal
use Rattle.ckpt_step.proofs.books.let_go_trees.Goals.{then-not-stays, else-not-stays}

pub loop-place-preserved : goal.loop-place-preserved
loop-place-preserved c =
    let now = c.loop-place.invariant in
    let was = c.args.trees.now in
    let told = c.args.told.now in
    let i = c.loop-place.place in
    elim c.if-not-stays.branch [
      | then-not-stays w ↦ (
          let done = w.let_go_unless_last.ensures in
          record {
            cells = λ u. ap (λ (b : Books). cell_at b.cells u) w.blocks-is
                ∙ (done.cells u ∙ gone_more u (cell_at c.args.blocks.now.cells u) (cell_at c.loop-place.blocks.cells u) was told i w.index-trees-place.result w.deref.result.now (omega (arith, c.loop-place-test.true)) w.index-trees-place.is (c.stays.ensures.no w.if-not-stays.true) (w.deref.ensures.value ∙ ap (λ (t : TreePlace). t.addrs.items) (sym w.index-trees-place.is)) (now.cells u));
            end = ap (λ (b : Books). end_of b.space) w.blocks-is ∙ (done.end ∙ now.end);
            units = λ units. subst (λ (b : Books). AreUnits b.cells b.space) (sym w.blocks-is) (done.units (now.units units));
            synced = ap (λ (b : Books). b.is_synced) w.blocks-is ∙ (done.synced ∙ now.synced);
            held = ap (λ (b : Books). b.is_held) w.blocks-is ∙ (done.held ∙ now.held);
          })
      | else-not-stays w ↦ (
          let lt : i < length was = omega (arith, c.loop-place-test.true) in
          record {
            cells = λ u. ap (λ (b : Books). cell_at b.cells u) w.blocks-is ∙ stay_more u (cell_at c.args.blocks.now.cells u) (cell_at c.loop-place.blocks.cells u) was told i (get_within was i lt).0 lt (c.stays.ensures.yes w.if-not-stays.false) (now.cells u);
            end = ap (λ (b : Books). end_of b.space) w.blocks-is ∙ now.end;
            units = λ units. subst (λ (b : Books). AreUnits b.cells b.space) (sym w.blocks-is) (now.units units);
            synced = ap (λ (b : Books). b.is_synced) w.blocks-is ∙ now.synced;
            held = ap (λ (b : Books). b.is_held) w.blocks-is ∙ now.held;
          })
    ]
