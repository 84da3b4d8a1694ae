use Rattle.std.proofs.Common.{ℕ, List, Option, Bor, option_map, ap, sym, subst}
use Rattle.kv_model.specs.Rows.{Up}
use Rattle.leaf_chains.specs.Nearest.{IsNearest, NonePast}
use Rattle.leaf_chains.proofs.Neighbours.{above_found, above_none, least_found}
use Rattle.leaf_chains.proofs.places.slot_above.Goals as goal

pub returns-in_err-behind_gap-in-Some : goal.returns-in_err-behind_gap-in-Some
returns-in_err-behind_gap-in-Some c =
    let slots = c.args.slots.now in
    let is = ap (option_map (λ (k : Bor (List ℕ)). k.now)) c.in-Some.is in
    let none = above_none slots c.args.order.now c.in-Some.key.now c.gap_above-gap.result c.requires.index c.gap_above-gap.ensures.parts c.in_err-behind_gap-in-Some.ensures in
    rw c.from_residual-in_err-behind_gap-in-Some.ensures (subst (λ (from : Option (List ℕ)). NonePast Up from slots) (sym is) none)

pub returns-in_ok-first-in-None : goal.returns-in_ok-first-in-None
returns-in_ok-first-in-None c =
    let slots = c.args.slots.now in
    let is = ap (option_map (λ (k : Bor (List ℕ)). k.now)) c.in-None.is in
    let p = c.in_ok-first-in-None.field-0 in
    subst (λ (from : Option (List ℕ)). IsNearest Up from slots c.get.result) (sym is)
    (least_found slots c.args.order.now p c.get.result c.requires.index c.in_ok-first-in-None.ensures.0 c.in_ok-first-in-None.ensures.1 c.get.ensures)

pub returns-in_ok-behind_gap-in-Some : goal.returns-in_ok-behind_gap-in-Some
returns-in_ok-behind_gap-in-Some c =
    let slots = c.args.slots.now in
    let is = ap (option_map (λ (k : Bor (List ℕ)). k.now)) c.in-Some.is in
    let p = c.in_ok-behind_gap-in-Some.field-0 in
    subst (λ (from : Option (List ℕ)). IsNearest Up from slots c.get-in-Some.result) (sym is)
    (above_found slots c.args.order.now c.in-Some.key.now c.gap_above-gap.result p c.get-in-Some.result c.requires.index c.gap_above-gap.ensures.parts c.in_ok-behind_gap-in-Some.ensures.0 c.in_ok-behind_gap-in-Some.ensures.1 c.get-in-Some.ensures)
