use Rattle.std.proofs.Common.{◌≡◌, ◌-◌, ◌<◌, ◌≤◌, length, vec_capacity, List, sym, ◌∙◌, ap, subst, arith}
use Rattle.std.proofs.lemmas.Grind.{common_steps}
use Rattle.block_mgr.specs.declared.cell.Cell.{Cell}
use Rattle.block_mgr.specs.Cells.{Holdings, cell_at, kept}
use Rattle.block_mgr.specs.Marks.{Listed, is_marked}
use Rattle.block_mgr.proofs.HolderLemmas.{is_there, used_named}
use Rattle.block_mgr.proofs.HasLemmas.{used_some}
use Rattle.block_mgr.proofs.MarkLemmas.{listed_set, kept_marked}
use Rattle.block_mgr.proofs.holders.Holders.unname.Goals as goal

pub invariant_of-self : goal.invariant_of-self
invariant_of-self c =
    let cells = c.self.inside.cells.items in
    let some : 1 ≤ (cell_at cells c.args.unit).names = subst (λ (b : Holdings). 1 ≤ (cell_at b.cells c.args.unit).names) (sym c.self.view_is) c.requires in
    let within : c.args.unit < length cells = is_there cells c.args.unit (used_some cells c.self.inside.space c.args.unit c.self.invariant.0 (used_named (cell_at cells c.args.unit) some)) in
    let read : c.index-cell.result.now ≡ cell_at cells c.args.unit = grind (arith, common_steps) in
    let next : Cell = record c.index-cell.result.now { names = c.index-cell.result.now.names - 1 } in
    (c.settle.ensures.units, subst (λ (l : List Cell). Listed l c.self.inside.marked.items (vec_capacity c.self.inside.marked)) (sym c.settle.ensures.cells) (listed_set cells c.self.inside.marked.items _ c.self.invariant.1 c.args.unit (kept next) within (kept_marked next ∙ ap is_marked read)))
