use Rattle.std.proofs.lemmas.List.Edits.{map_over_more}
use Rattle.std.proofs.Common.{◌∙◌, ap, sym, arith, slice_set, None}
use Rattle.call_steps.specs.declared.cursor.Cursor.{Cursor}
use Rattle.call_steps.specs.State.{placed}
use Rattle.call_steps.proofs.state.unplace.Goals as goal

pub loop-cursor-preserved : goal.loop-cursor-preserved
loop-cursor-preserved c =
    let f = placed None in
    let fact = map_over_more f c.args.cursors.now c.loop-cursor.cursors c.loop-cursor.cursor-index c.cursor-item.result (omega arith) c.loop-cursor.invariant c.cursor-item.is in
    ap (λ (z : Cursor). slice_set c.loop-cursor.cursors c.loop-cursor.cursor-index z) c.lift.ensures
    ∙ (ap (λ (z : Cursor). slice_set c.loop-cursor.cursors c.loop-cursor.cursor-index (f z)) (sym c.cursor-item.is) ∙ fact)
