use Rattle.std.proofs.Common.{◌≡◌, ◌+◌, ◌<◌, ◌≤◌, length, sym, ap, subst, arith}
use Rattle.std.proofs.lemmas.Grind.{common_steps}
use Rattle.block_mgr.specs.declared.cell.Cell.{Cell}
use Rattle.block_mgr.specs.Cells.{Holdings, MayBeNamed, cell_at}
use Rattle.block_mgr.specs.Marks.{is_marked}
use Rattle.block_mgr.proofs.HolderLemmas.{is_there, used_last, used_named}
use Rattle.block_mgr.proofs.HasLemmas.{used_some}
use Rattle.block_mgr.proofs.MarkLemmas.{listed_set}
use Rattle.block_mgr.proofs.UnitLemmas.{same_block}
use Rattle.block_mgr.proofs.holders.Holders.name.Goals as goal

pub invariant_of-self : goal.invariant_of-self
invariant_of-self c =
    let cells = c.self.inside.cells.items in
    let may : MayBeNamed (cell_at cells c.args.unit) = subst (λ (b : Holdings). MayBeNamed (cell_at b.cells c.args.unit)) (sym c.self.view_is) c.requires in
    let more : 1 ≤ (cell_at cells c.args.unit).units = used_some cells c.self.inside.space c.args.unit c.self.invariant.0 (used_last (cell_at cells c.args.unit) may.0) in
    let within : c.args.unit < length cells = is_there cells c.args.unit more in
    let read : c.index-cell.result.now ≡ cell_at cells c.args.unit = grind (arith, common_steps) in
    let same : c.index-cell.result.now.units ≡ (cell_at cells c.args.unit).units = ap (λ (x : Cell). x.units) read in
    let next : Cell = record c.index-cell.result.now { names = c.index-cell.result.now.names + 1 } in
    (same_block cells c.self.inside.space c.args.unit c.self.invariant.0 within next same (omega (arith, same, more)) (used_named next (omega arith)), listed_set cells c.self.inside.marked.items _ c.self.invariant.1 c.args.unit next within (ap is_marked read))
