use Rattle.std.proofs.Common.{◌+◌, ℕ, List, Option, Bor, option_map, sym, subst}
use Rattle.leaf_frame.specs.Near.{IsPlaceAbove}
use Rattle.leaf_frame.proofs.Pages.{place_above_gap, place_above_row, place_of_all}
use Rattle.leaf_frame.proofs.page.place_above.Goals as goal

pub returns-in-None : goal.returns-in-None
returns-in-None c = subst (λ (o : Option (Bor (List ℕ))). IsPlaceAbove (option_map (λ k. k.now) o) c.args.leaf.now 0) (sym c.in-None.is) (place_of_all c.args.leaf.now)

pub returns-in-Ok : goal.returns-in-Ok
returns-in-Ok c =
    subst (λ (o : Option (Bor (List ℕ))). IsPlaceAbove (option_map (λ k. k.now) o) c.args.leaf.now (c.in-Ok.i + 1)) (sym c.in-Some.is)
    (place_above_row c.args.leaf.now c.in-Some.key.now c.in-Ok.i c.requires.ascend c.in-Ok.ensures)

pub returns-in-Err : goal.returns-in-Err
returns-in-Err c =
    subst (λ (o : Option (Bor (List ℕ))). IsPlaceAbove (option_map (λ k. k.now) o) c.args.leaf.now c.in-Err.i) (sym c.in-Some.is) (place_above_gap c.args.leaf.now c.in-Some.key.now c.in-Err.i c.in-Err.ensures)
