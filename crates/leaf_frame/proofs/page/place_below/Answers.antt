use Rattle.std.proofs.Common.{ℕ, List, Option, Bor, option_map, sym, subst}
use Rattle.leaf_frame.specs.Near.{IsPlaceBelow}
use Rattle.leaf_frame.proofs.Pages.{place_below_gap, place_below_row}
use Rattle.leaf_frame.proofs.page.place_below.Goals as goal

pub returns-in-Ok : goal.returns-in-Ok
returns-in-Ok c =
    subst (λ (o : Option (Bor (List ℕ))). IsPlaceBelow (option_map (λ k. k.now) o) c.args.leaf.now c.in-Ok.i) (sym c.in-Some.is)
    (place_below_row c.args.leaf.now c.in-Some.key.now c.in-Ok.i c.requires.ascend c.in-Ok.ensures)

pub returns-in-Err : goal.returns-in-Err
returns-in-Err c =
    subst (λ (o : Option (Bor (List ℕ))). IsPlaceBelow (option_map (λ k. k.now) o) c.args.leaf.now c.in-Err.i) (sym c.in-Some.is) (place_below_gap c.args.leaf.now c.in-Some.key.now c.in-Err.i c.in-Err.ensures)
