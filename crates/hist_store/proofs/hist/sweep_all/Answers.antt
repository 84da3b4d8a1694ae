use Rattle.std.proofs.Common.{◌∙◌, ap, sym, arith, slice_set}
use Rattle.std.proofs.lemmas.List.Edits.{map_over_more}
use Rattle.hist_store.specs.declared.key_history.KeyHistory.{KeyHistory}
use Rattle.hist_store.specs.Versions.{swept_slot}
use Rattle.hist_store.proofs.hist.sweep_all.Goals as goal

pub loop-slot-preserved : goal.loop-slot-preserved
loop-slot-preserved c =
    let f = swept_slot c.args.pin c.args.floor in
    let fact = map_over_more f c.deref_mut-slot-items.result.now c.loop-slot.slot-items c.loop-slot.slot-index c.slot-item.result (omega arith) c.loop-slot.invariant c.slot-item.is in
    ap (λ (z : KeyHistory). slice_set c.loop-slot.slot-items c.loop-slot.slot-index z) c.sweep_one.ensures
    ∙ (ap (λ (z : KeyHistory). slice_set c.loop-slot.slot-items c.loop-slot.slot-index (f z)) (sym c.slot-item.is) ∙ fact)
