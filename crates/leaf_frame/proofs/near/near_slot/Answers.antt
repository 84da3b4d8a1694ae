use Rattle.std.proofs.Common.{Option, Bor, option_map, sym, subst}
use Rattle.std.specs.Prelude.{MatchOption}
use Rattle.leaf_chains.specs.declared.slot.KeyChain.{KeyChain}
use Rattle.leaf_frame.specs.Near.{IsNearSlot, NoSlotPast}
use Rattle.leaf_frame.specs.Ways.{way_in}
use Rattle.leaf_frame.proofs.Slots.{near_slot, no_slot_past}
use Rattle.leaf_frame.proofs.near.near_slot.Goals as goal

pub returns-in_err-slot : goal.returns-in_err-slot
returns-in_err-slot c =
    let way = way_in c.args.way in
    let from = option_map (λ k. k.now) c.args.from in
    let slots = c.args.chains.now in
    subst (λ (o : Option (Bor KeyChain)). MatchOption o (NoSlotPast way from slots) (λ s. IsNearSlot way from slots s.now)) (sym c.from_residual.ensures) (no_slot_past way from slots c.in_err-slot.ensures)

pub returns : goal.returns
returns c = near_slot (way_in c.args.way) (option_map (λ k. k.now) c.args.from) c.args.chains.now c.in_ok-slot.slot c.slot.result c.in_ok-slot.ensures c.slot.ensures.there c.slot.ensures.own
