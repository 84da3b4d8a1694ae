use Rattle.std.proofs.Common.{ℕ, List, None, subst}
use Rattle.std.specs.Prelude.{option_map}
use Rattle.leaf_chains.specs.Nearest.{IsWayUp}
use Rattle.leaf_frame.specs.declared.slot_way.SlotsAhead.{SlotsAhead}
use Rattle.leaf_frame.specs.Walks.{SlotsFrom}
use Rattle.leaf_frame.proofs.SlotWays.{taken}
use Rattle.leaf_frame.proofs.slot_way.SlotsAhead.next.Goals as goal

pub returns-in_ok-slot-in-Up-clause-left : goal.returns-in_ok-slot-in-Up-clause-left
returns-in_ok-slot-in-Up-clause-left c =
    let from = option_map (λ k. k.now) c.args.from in
    let way = subst (λ (l : List ℕ). IsWayUp from c.args.chains.now l) c.in_ok-slot-in-Up.ensures.after (subst (λ (s : SlotsAhead). SlotsFrom s from c.args.chains.now None) c.in-Up.is c.requires) in
    (taken from c.args.chains.now c.in_ok-slot-in-Up.slot c.next_entry.new.self way c.slot.result c.slot.ensures.there c.slot.ensures.own).0

pub returns-in_ok-slot-in-Up-clause-none : goal.returns-in_ok-slot-in-Up-clause-none
returns-in_ok-slot-in-Up-clause-none c =
    let from = option_map (λ k. k.now) c.args.from in
    let way = subst (λ (l : List ℕ). IsWayUp from c.args.chains.now l) c.in_ok-slot-in-Up.ensures.after (subst (λ (s : SlotsAhead). SlotsFrom s from c.args.chains.now None) c.in-Up.is c.requires) in
    (taken from c.args.chains.now c.in_ok-slot-in-Up.slot c.next_entry.new.self way c.slot.result c.slot.ensures.there c.slot.ensures.own).1
