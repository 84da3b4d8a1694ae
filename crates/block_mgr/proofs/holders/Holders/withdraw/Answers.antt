use Rattle.std.proofs.Common.{◌≡◌, ◌⊎◌, ◌+◌, ◌-◌, ◌*◌, ◌/◌, ◌≤◌, false, ℕ, length, inl, inr, sym, ap, subst, arith}
use Rattle.extent_list.specs.Space.{end_of, Taken}
use Rattle.block_mgr.specs.declared.cell.Cell.{Cell}
use Rattle.block_mgr.specs.Cells.{Holdings, cell_at, nothing, fresh, Put}
use Rattle.block_mgr.specs.Marks.{is_marked}
use Rattle.block_mgr.proofs.MarkLemmas.{listed_put}
use Rattle.block_mgr.proofs.UnitLemmas.{none_behind, block_withdrawn, withdrawn}
use Rattle.block_mgr.proofs.holders.Holders.withdraw.Goals as goal

pub take_away-requires-clause-last : goal.take_away-requires-clause-last
take_away-requires-clause-last c =
    let old = c.self.inside.space in
    let cells = c.self.inside.cells.items in
    let size : (cell_at cells c.args.unit).units ≡ c.args.units = ap (λ (x : Cell). x.units) (subst (λ (b : Holdings). cell_at b.cells c.args.unit ≡ fresh c.args.units) (sym c.self.view_is) c.requires.fresh) in
    let stops : (c.args.end ≡ end_of old) ⊎ ((c.args.end ≡ 8192 + 4096 * c.args.unit) × (8192 + 4096 * c.args.unit + 4096 * c.args.units ≡ end_of old)) = subst (λ (b : Holdings). (c.args.end ≡ end_of b.space) ⊎ ((c.args.end ≡ 8192 + 4096 * c.args.unit) × (8192 + 4096 * c.args.unit + 4096 * c.args.units ≡ end_of b.space))) (sym c.self.view_is) c.requires.end in
    let total : c.args.end ≡ 8192 + 4096 * ((c.args.end - 8192) / 4096) = elim stops [ inl all ↦ omega (arith, all) | inr cut ↦ omega (arith, cut.0) ] in
    none_behind cells old c.put_back.new.self c.args.unit c.args.units c.args.end c.self.invariant.0 c.requires.some size stops ((c.args.end - 8192) / 4096) total

pub invariant_of-self : goal.invariant_of-self
invariant_of-self c =
    let old = c.self.inside.space in
    let new = c.put_back.new.self in
    let cells = c.self.inside.cells.items in
    let size : (cell_at cells c.args.unit).units ≡ c.args.units = ap (λ (x : Cell). x.units) (subst (λ (b : Holdings). cell_at b.cells c.args.unit ≡ fresh c.args.units) (sym c.self.view_is) c.requires.fresh) in
    let stops : (c.args.end ≡ end_of old) ⊎ ((c.args.end ≡ 8192 + 4096 * c.args.unit) × (8192 + 4096 * c.args.unit + 4096 * c.args.units ≡ end_of old)) = subst (λ (b : Holdings). (c.args.end ≡ end_of b.space) ⊎ ((c.args.end ≡ 8192 + 4096 * c.args.unit) × (8192 + 4096 * c.args.unit + 4096 * c.args.units ≡ end_of b.space))) (sym c.self.view_is) c.requires.end in
    let total : (c.args.end - 8192) / 4096 ≡ length new.units = omega (arith, c.put_back.ensures.ends) in
    let gone : Put cells c.take_away.new.cells.items (length new.units) c.args.unit nothing = subst (λ (t : ℕ). Put cells c.take_away.new.cells.items t c.args.unit nothing) total c.take_away.ensures in
    let held = block_withdrawn cells old new c.args.unit c.args.units c.args.end c.self.invariant.0 c.requires.some size stops c.take_away.new.cells.items c.put_back.ensures gone in
    let alone : is_marked (cell_at cells c.args.unit) ≡ false = ap is_marked (subst (λ (b : Holdings). cell_at b.cells c.args.unit ≡ fresh c.args.units) (sym c.self.view_is) c.requires.fresh) in
    let fewer : length new.units ≤ length cells = elim stops [ inl all ↦ omega (arith, all, c.put_back.ensures.ends, c.self.invariant.0.long) | inr cut ↦ omega (arith, cut.0, cut.1, c.put_back.ensures.ends, c.self.invariant.0.long) ] in
    (held, listed_put cells c.self.inside.marked.items _ c.self.invariant.1 c.take_away.new.cells.items (length new.units) c.args.unit _ nothing gone (sym alone) (omega (arith, fewer, c.self.invariant.1.room)))

pub returns : goal.returns
returns c before capacity units end (taken, put) =
    let new = c.put_back.new.self in
    let total : (c.args.end - 8192) / 4096 ≡ length new.units = omega (arith, c.put_back.ensures.ends) in
    let gone : Put c.self.inside.cells.items c.take_away.new.cells.items (length new.units) c.args.unit nothing = subst (λ (t : ℕ). Put c.self.inside.cells.items c.take_away.new.cells.items t c.args.unit nothing) total c.take_away.ensures in
    withdrawn before (record { cells = c.self.inside.cells.items; space = c.self.inside.space }) (record { cells = c.take_away.new.cells.items; space = new }) c.args.unit c.args.units capacity c.args.end c.requires.some units end (subst (λ (b : Holdings). Taken before.space b.space (4096 * c.args.units) capacity (8192 + 4096 * c.args.unit)) (sym c.self.view_is) taken) (subst (λ (b : Holdings). Put before.cells b.cells (length b.space.units) c.args.unit (fresh c.args.units)) (sym c.self.view_is) put) c.put_back.ensures gone
