use Rattle.std.proofs.Common.{rules, ◌≡◌, ℕ, suc, ◌+◌, ◌++◌, ◌∷◌, [], sym, ap, ◌∙◌, subst, arith}
use lib.ListN.{get_elem?}
use Rattle.std.specs.Slots.{slots_filled, slots_items}
use Rattle.latch_table.proofs.Ending.{LeftFrom, emptied, takes_next}
use Rattle.latch_table.proofs.Packing.{same_frame}
use Rattle.latch_table.proofs.close.take_pieces.Goals as goal

pub frame_in-requires : goal.frame_in-requires
frame_in-requires g c =
    let i = c.loop-i.invariant in
    let e = ap (λ l. get_elem? l c.loop-i.i) (sym i.2) ∙ c.take-in-loop-i.ensures.value in
    let t = takes_next i.4.0 c.loop-i.frames.items (slots_items c.args.closed.slots) c.loop-i.i c.take-in-loop-i.result e i.4.2 in
    (t.0, t.1)

pub loop-i-preserved : goal.loop-i-preserved
loop-i-preserved g c =
    let i = c.loop-i.invariant in
    let e = ap (λ l. get_elem? l c.loop-i.i) (sym i.2) ∙ c.take-in-loop-i.ensures.value in
    let t = takes_next i.4.0 c.loop-i.frames.items (slots_items c.args.closed.slots) c.loop-i.i c.take-in-loop-i.result e i.4.2 in
    let same = same_frame t.0 c.frame_in.result (sym t.1 ∙ c.frame_in.ensures) in
    let items = c.push_reserved.ensures.items ∙ ap (λ x. c.loop-i.frames.items ++ x ∷ []) (sym same) in
    let o = c.take-in-loop-i.ensures.others in
    let len = o.2 in
    let test = c.loop-i-test.true in
    let count = c.slot_count.ensures in
    let cap = c.push_reserved.ensures.capacity in
    let room = i.4.3 in
    let next : suc c.loop-i.i ≡ c.loop-i.i + 1 = omega arith in (
      search rules,
      emptied (slots_filled c.loop-i.closed.slots) (slots_filled c.take-in-loop-i.new.self.slots) c.loop-i.i o.1 (let f = c.loop-i.closed.slots.ok.1 in omega arith) i.1,
      o.0 ∙ i.2,
      omega arith,
      (
        i.4.0,
        i.4.1,
        subst (λ (k : ℕ). LeftFrom i.4.0 c.push_reserved.new.self.items (slots_items c.args.closed.slots) k) next (subst (λ fs. LeftFrom i.4.0 fs (slots_items c.args.closed.slots) (suc c.loop-i.i)) (sym items) t.2),
        omega arith,
      ),
    )
