use Rattle.std.proofs.Common.{◌∙◌, ap, refl, List}
use Rattle.block_mgr.specs.declared.cell.Cell.{Cell}
use Rattle.block_mgr.specs.Cells.{cell_at, dropped_cell}
use Rattle.block_mgr.proofs.HolderLemmas.{at_map}
use Rattle.ckpt_step.specs.Frees.{without_news}
use Rattle.ckpt_step.proofs.SettledCells.{given_up}
use Rattle.ckpt_step.proofs.books.give_up.Goals as goal

pub returns-clause-cells : goal.returns-clause-cells
returns-clause-cells c old lone own half u =
    let captured = c.args.captured.now in
    let lives = c.args.lives.now in
    let mid = c.let_go_of_new.new.blocks.cells in
    ap (λ (l : List Cell). cell_at l u) c.ckpt_drop.ensures.cells
    ∙ (at_map dropped_cell mid u refl ∙ (ap dropped_cell (c.let_go_of_new.ensures.cells u ∙ ap (λ (d : Cell). without_news lives u d captured) (half u)) ∙ given_up old lives captured own u lone))
