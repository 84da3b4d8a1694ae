use Rattle.std.proofs.Common.{ℕ, List, Option, Some, None, Bor, option_map, ap, sym, subst}
use Rattle.leaf_chains.specs.Nearest.{IsWayUp}
use Rattle.leaf_chains.proofs.Neighbours.{way_above, way_of_all}
use Rattle.leaf_chains.proofs.places.walk_above.Goals as goal

pub returns-in-None : goal.returns-in-None
returns-in-None c =
    let slots = c.args.slots.now in
    let is = ap (option_map (λ (k : Bor (List ℕ)). k.now)) c.in-None.is in
    subst (λ (from : Option (List ℕ)). IsWayUp from slots c.walk.result) (sym is)
    (subst (λ (w : List ℕ). IsWayUp None slots w) (sym c.walk.ensures) (way_of_all slots c.args.order.now c.start_of.result c.requires.index c.start_of.ensures.start))

pub returns-in-Some : goal.returns-in-Some
returns-in-Some c =
    let slots = c.args.slots.now in
    let key = c.in-Some.key.now in
    let is = ap (option_map (λ (k : Bor (List ℕ)). k.now)) c.in-Some.is in
    subst (λ (from : Option (List ℕ)). IsWayUp from slots c.walk-in-Some.result) (sym is)
    (subst (λ (w : List ℕ). IsWayUp (Some key) slots w) (sym c.walk-in-Some.ensures) (way_above slots c.args.order.now key c.gap_above.result c.requires.index c.gap_above.ensures.parts))
