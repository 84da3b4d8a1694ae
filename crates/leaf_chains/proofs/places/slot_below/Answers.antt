use Rattle.std.proofs.Common.{ℕ, List, Option, Bor, option_map, ap, sym, subst}
use Rattle.kv_model.specs.Rows.{Down}
use Rattle.leaf_chains.specs.Nearest.{IsNearest, NonePast}
use Rattle.leaf_chains.proofs.Neighbours.{below_found, below_none, greatest_found}
use Rattle.leaf_chains.proofs.places.slot_below.Goals as goal

pub returns-in_err-before_gap-in-Some : goal.returns-in_err-before_gap-in-Some
returns-in_err-before_gap-in-Some c =
    let slots = c.args.slots.now in
    let is = ap (option_map (λ (k : Bor (List ℕ)). k.now)) c.in-Some.is in
    let none = below_none slots c.args.order.now c.in-Some.key.now c.gap_below-gap.result c.requires.index c.gap_below-gap.ensures.parts c.in_err-before_gap-in-Some.ensures in
    rw c.from_residual-in_err-before_gap-in-Some.ensures (subst (λ (from : Option (List ℕ)). NonePast Down from slots) (sym is) none)

pub returns-in_ok-last-in-None : goal.returns-in_ok-last-in-None
returns-in_ok-last-in-None c =
    let slots = c.args.slots.now in
    let is = ap (option_map (λ (k : Bor (List ℕ)). k.now)) c.in-None.is in
    let p = c.in_ok-last-in-None.field-0 in
    subst (λ (from : Option (List ℕ)). IsNearest Down from slots c.get.result) (sym is)
    (greatest_found slots c.args.order.now p c.get.result c.requires.index c.in_ok-last-in-None.ensures.0 c.in_ok-last-in-None.ensures.1 c.get.ensures)

pub returns-in_ok-before_gap-in-Some : goal.returns-in_ok-before_gap-in-Some
returns-in_ok-before_gap-in-Some c =
    let slots = c.args.slots.now in
    let is = ap (option_map (λ (k : Bor (List ℕ)). k.now)) c.in-Some.is in
    let p = c.in_ok-before_gap-in-Some.field-0 in
    subst (λ (from : Option (List ℕ)). IsNearest Down from slots c.get-in-Some.result) (sym is)
    (below_found slots c.args.order.now c.in-Some.key.now c.gap_below-gap.result p c.get-in-Some.result c.requires.index c.gap_below-gap.ensures.parts c.in_ok-before_gap-in-Some.ensures.0 c.in_ok-before_gap-in-Some.ensures.1 c.get-in-Some.ensures)
