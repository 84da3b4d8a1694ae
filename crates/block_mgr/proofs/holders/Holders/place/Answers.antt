use Rattle.std.proofs.Common.{◌≡◌, ◌+◌, ◌-◌, ◌*◌, ◌/◌, ℕ, Option, List, length, vec_capacity, IfSome, sym, ◌∙◌, ap, subst, arith}
use Rattle.extent_list.specs.Space.{Taken, IsPlace}
use Rattle.block_mgr.specs.declared.cell.Cell.{Cell}
use Rattle.block_mgr.specs.Cells.{Holdings, AreUnits, Put, cell_at, nothing, fresh, is_used}
use Rattle.block_mgr.specs.Marks.{is_marked}
use Rattle.block_mgr.proofs.MarkLemmas.{listed_grown, listed_put, taken_few}
use Rattle.block_mgr.proofs.WriteLemmas.{none_there}
use Rattle.block_mgr.proofs.UnitLemmas.{claimed_taken, block_new}
use Rattle.block_mgr.proofs.holders.Holders.place.Goals as goal

pub invariant_of-self-2 : goal.invariant_of-self-2
invariant_of-self-2 c =
    let old = c.self.inside.space in
    let new = c.take.new.self in
    let n : ℕ = 4096 * c.args.units in
    let unit : ℕ = (c.in-Some.at - 8192) / 4096 in
    let place : IsPlace new c.in-Some.at n = subst (λ (o : Option ℕ). IfSome o (λ a. IsPlace new a n)) c.in-Some.is c.in_ok-at.ensures.place in
    let whole : c.in-Some.at ≡ 8192 + 4096 * unit = omega (arith, place.behind, place.whole) in
    let taken : Taken old new n c.args.capacity c.in-Some.at = subst (λ (o : Option ℕ). IfSome o (Taken old new n c.args.capacity)) c.in-Some.is c.in_ok-at.ensures.taken in
    let at_unit : Taken old new n c.args.capacity (8192 + 4096 * unit) = subst (λ (a : ℕ). Taken old new n c.args.capacity a) whole taken in
    let units : AreUnits c.reserve.new.cells.items old = subst (λ (l : List Cell). AreUnits l old) (sym c.reserve.ensures.cells) c.self.invariant.0 in
    let total : (c.end.result - 8192) / 4096 ≡ length new.units = omega (arith, c.end.ensures.end) in
    let next = c.fresh_cell.result in
    let put : Put c.reserve.new.cells.items c.put.new.cells.items (length new.units) unit next = subst (λ (t : ℕ). Put c.reserve.new.cells.items c.put.new.cells.items t unit next) total c.put.ensures in
    let held = block_new c.reserve.new.cells.items old new unit c.args.units units c.requires (claimed_taken old new (8192 + 4096 * unit) n c.args.capacity at_unit) c.put.new.cells.items next (ap (λ (x : Cell). x.units) c.fresh_cell.ensures) (ap is_used c.fresh_cell.ensures) put (omega (arith, c.end.ensures.end)) in
    let none : cell_at c.reserve.new.cells.items unit ≡ nothing = none_there c.reserve.new.cells.items old new unit c.args.units c.args.capacity units c.requires at_unit in
    let grown = listed_grown c.self.inside.cells.items c.reserve.new.cells.items c.self.inside.marked.items c.reserve.new.marked.items _ (vec_capacity c.reserve.new.marked) c.self.invariant.1 c.reserve.ensures.cells c.reserve.ensures.marked c.reserve.ensures.more in
    let few = taken_few old new c.args.units c.args.capacity (8192 + 4096 * unit) (length c.self.inside.cells.items) at_unit c.self.invariant.0.long in
    (held, listed_put c.reserve.new.cells.items c.reserve.new.marked.items _ grown c.put.new.cells.items (length new.units) unit _ next put (ap is_marked c.fresh_cell.ensures ∙ sym (ap is_marked none)) (omega (arith, few, c.in_ok-reserve.ensures.list_room)))

pub returns-clause-taken : goal.returns-clause-taken
returns-clause-taken c =
    let old = c.self.inside.space in
    let new = c.take.new.self in
    let n : ℕ = 4096 * c.args.units in
    let unit : ℕ = (c.in-Some.at - 8192) / 4096 in
    let place : IsPlace new c.in-Some.at n = subst (λ (o : Option ℕ). IfSome o (λ a. IsPlace new a n)) c.in-Some.is c.in_ok-at.ensures.place in
    let whole : c.in-Some.at ≡ 8192 + 4096 * unit = omega (arith, place.behind, place.whole) in
    let taken : Taken old new n c.args.capacity c.in-Some.at = subst (λ (o : Option ℕ). IfSome o (Taken old new n c.args.capacity)) c.in-Some.is c.in_ok-at.ensures.taken in
    subst (λ (b : Holdings). Taken b.space new n c.args.capacity (8192 + 4096 * unit)) c.self.view_is (subst (λ (a : ℕ). Taken old new n c.args.capacity a) whole taken)

pub returns-clause-units : goal.returns-clause-units
returns-clause-units c =
    let old = c.self.inside.space in
    let new = c.take.new.self in
    let n : ℕ = 4096 * c.args.units in
    let unit : ℕ = (c.in-Some.at - 8192) / 4096 in
    let place : IsPlace new c.in-Some.at n = subst (λ (o : Option ℕ). IfSome o (λ a. IsPlace new a n)) c.in-Some.is c.in_ok-at.ensures.place in
    let whole : c.in-Some.at ≡ 8192 + 4096 * unit = omega (arith, place.behind, place.whole) in
    let taken : Taken old new n c.args.capacity c.in-Some.at = subst (λ (o : Option ℕ). IfSome o (Taken old new n c.args.capacity)) c.in-Some.is c.in_ok-at.ensures.taken in
    let at_unit : Taken old new n c.args.capacity (8192 + 4096 * unit) = subst (λ (a : ℕ). Taken old new n c.args.capacity a) whole taken in
    let units : AreUnits c.reserve.new.cells.items old = subst (λ (l : List Cell). AreUnits l old) (sym c.reserve.ensures.cells) c.self.invariant.0 in
    let total : (c.end.result - 8192) / 4096 ≡ length new.units = omega (arith, c.end.ensures.end) in
    let next = c.fresh_cell.result in
    let put : Put c.reserve.new.cells.items c.put.new.cells.items (length new.units) unit next = subst (λ (t : ℕ). Put c.reserve.new.cells.items c.put.new.cells.items t unit next) total c.put.ensures in
    block_new c.reserve.new.cells.items old new unit c.args.units units c.requires (claimed_taken old new (8192 + 4096 * unit) n c.args.capacity at_unit) c.put.new.cells.items next (ap (λ (x : Cell). x.units) c.fresh_cell.ensures) (ap is_used c.fresh_cell.ensures) put (omega (arith, c.end.ensures.end))

pub returns-clause-placed : goal.returns-clause-placed
returns-clause-placed c =
    let new = c.take.new.self in
    let after = c.put.new.cells.items in
    let unit : ℕ = (c.in-Some.at - 8192) / 4096 in
    let total : (c.end.result - 8192) / 4096 ≡ length new.units = omega (arith, c.end.ensures.end) in
    let put : Put c.reserve.new.cells.items after (length new.units) unit c.fresh_cell.result = subst (λ (t : ℕ). Put c.reserve.new.cells.items after t unit c.fresh_cell.result) total c.put.ensures in
    let from : Put c.self.inside.cells.items after (length new.units) unit c.fresh_cell.result = subst (λ (l : List Cell). Put l after (length new.units) unit c.fresh_cell.result) c.reserve.ensures.cells put in
    let made : Put c.self.inside.cells.items after (length new.units) unit (fresh c.args.units) = subst (λ (x : Cell). Put c.self.inside.cells.items after (length new.units) unit x) c.fresh_cell.ensures from in
    subst (λ (b : Holdings). Put b.cells after (length new.units) unit (fresh c.args.units)) c.self.view_is made
