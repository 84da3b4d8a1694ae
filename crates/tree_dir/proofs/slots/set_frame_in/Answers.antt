use Rattle.std.proofs.Common.{◌≡◌, ◌∙◌, ℕ, Option, length, refl, ap, sym, arith}
use Rattle.std.proofs.lemmas.Option.{slice_get_read}
use Rattle.tree_dir.specs.Leaves.{in_frame}
use Rattle.tree_dir.specs.Slots.{changed_if, leaf_at, slot_by_id}
use Rattle.tree_dir.proofs.SlotLemmas.{leaf-read, set-changed}
use Rattle.tree_dir.proofs.slots.set_frame_in.Goals as goal

pub returns-in-Some : goal.returns-in-Some
returns-in-Some c =
    let slots = c.args.slots.now.items in
    let change = in_frame c.args.frame in
    let at = c.in-Some.at in
    let read : leaf_at slots at ≡ c.index_mut.result.now = leaf-read slots at c.index_mut.result.now (slice_get_read slots (length slots) at c.index_mut.result.now refl (omega (arith, c.in-Some.ensures.within)) c.index_mut.ensures.value) in
    set-changed at change slots c.put_frame.new.leaf (omega (arith, c.in-Some.ensures.within)) (ap change read ∙ sym c.put_frame.ensures)
    ∙ ap (λ (o : Option ℕ). changed_if o change slots) (c.in-Some.ensures.found ∙ ap (slot_by_id c.args.id) c.deref.ensures.value)
