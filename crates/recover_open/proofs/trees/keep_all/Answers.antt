use Rattle.std.proofs.Common.{◌∙◌, ap, sym, arith, slice_set, List}
use Rattle.std.proofs.lemmas.List.Edits.{map_over_more}
use Rattle.row_page.specs.Rows.{Row}
use Rattle.recover_open.specs.Bare.{kept_of}
use Rattle.recover_open.proofs.trees.keep_all.Goals as goal

pub loop-rows-preserved : goal.loop-rows-preserved
loop-rows-preserved c =
    ap (λ (z : List Row). slice_set c.loop-rows.leaves c.loop-rows.rows-index z) c.keep.ensures
    ∙ ap (λ (z : List Row). slice_set c.loop-rows.leaves c.loop-rows.rows-index (kept_of c.args.found.now z)) (sym c.rows-item.is)
    ∙ map_over_more (kept_of c.args.found.now) c.args.leaves.now c.loop-rows.leaves c.loop-rows.rows-index c.rows-item.result (omega arith) c.loop-rows.invariant c.rows-item.is
