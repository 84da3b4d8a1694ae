use Rattle.std.proofs.Common.{◌∷◌, ◌++◌, [], sym, ap, ◌∙◌, subst, arith}
use Rattle.latch_table.proofs.Packing.{Packs, unpacks, same_frame}
use Rattle.latch_table.proofs.open.unpack.Goals as goal

pub frame_in-requires : goal.frame_in-requires
frame_in-requires g c =
    let i = c.loop-part.invariant in
    let u = unpacks i.0 c.loop-part.frames.items c.loop-part.parts.items c.pop-in-loop-part.new.self.items c.in-Some-pop.part c.in-Some-pop.ensures.items i.4 in
    (u.0, u.1)

pub loop-part-preserved : goal.loop-part-preserved
loop-part-preserved g c =
    let i = c.loop-part.invariant in
    let u = unpacks i.0 c.loop-part.frames.items c.loop-part.parts.items c.pop-in-loop-part.new.self.items c.in-Some-pop.part c.in-Some-pop.ensures.items i.4 in
    let same = same_frame u.0 c.frame_in.result (sym u.1 ∙ c.frame_in.ensures) in
    let items = c.push_reserved.ensures.items ∙ ap (λ x. c.loop-part.frames.items ++ x ∷ []) (sym same) in
    let cap = c.push_reserved.ensures.capacity in
    let room = i.5 in (
      i.0,
      i.1,
      i.2,
      i.3,
      subst (λ fs. Packs i.0 fs c.pop-in-loop-part.new.self.items) (sym items) u.2,
      omega arith,
    )
