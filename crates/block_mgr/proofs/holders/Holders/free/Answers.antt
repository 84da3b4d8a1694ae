use Rattle.std.proofs.Common.{◌≡◌, ◌<◌, false, length, vec_capacity, List, sym, ◌∙◌, ap, subst, arith}
use Rattle.std.proofs.lemmas.Grind.{common_steps}
use Rattle.block_mgr.specs.declared.cell.Cell.{Cell}
use Rattle.block_mgr.specs.Cells.{Holdings, IsLive, cell_at, kept}
use Rattle.block_mgr.specs.Marks.{Listed, is_marked}
use Rattle.block_mgr.proofs.HolderLemmas.{is_there}
use Rattle.block_mgr.proofs.MarkLemmas.{listed_set, kept_marked}
use Rattle.block_mgr.proofs.UnitLemmas.{live_some}
use Rattle.block_mgr.proofs.holders.Holders.free.Goals as goal

pub invariant_of-self : goal.invariant_of-self
invariant_of-self c =
    let cells = c.self.inside.cells.items in
    let live : IsLive cells c.args.unit = subst (λ (b : Holdings). IsLive b.cells c.args.unit) (sym c.self.view_is) c.requires in
    let within : c.args.unit < length cells = is_there cells c.args.unit (live_some cells c.self.inside.space c.args.unit c.self.invariant.0 live) in
    let read : c.index-cell.result.now ≡ cell_at cells c.args.unit = grind (arith, common_steps) in
    let next : Cell = record c.index-cell.result.now { is_live = false } in
    (c.settle.ensures.units, subst (λ (l : List Cell). Listed l c.self.inside.marked.items (vec_capacity c.self.inside.marked)) (sym c.settle.ensures.cells) (listed_set cells c.self.inside.marked.items _ c.self.invariant.1 c.args.unit (kept next) within (kept_marked next ∙ ap is_marked read)))
