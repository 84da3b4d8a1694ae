use Rattle.std.proofs.Common.{length, List, sym, ◌∙◌, ap, arith}
use Rattle.std.proofs.lemmas.List.{length-map}
use Rattle.block_mgr.specs.declared.cell.Cell.{Cell}
use Rattle.block_mgr.specs.Cells.{cell_at, ended_cell}
use Rattle.block_mgr.specs.Marks.{is_marked}
use Rattle.block_mgr.proofs.HolderLemmas.{at_map}
use Rattle.block_mgr.proofs.MarkLemmas.{ended_nothing, ended_marked}
use Rattle.block_mgr.proofs.holders.Holders.end_running.Goals as goal

pub drop_unmarked-requires-clause-all : goal.drop_unmarked-requires-clause-all
drop_unmarked-requires-clause-all c u is =
    let cells = c.self.inside.cells.items in
    let there = ap (λ (l : List Cell). cell_at l u) (c.deref-2.ensures.value ∙ c.end_marked.ensures.cells) ∙ at_map (ended_cell c.args.is_complete) cells u (ended_nothing c.args.is_complete) in
    c.self.invariant.1.exact u ∙ ended_marked c.args.is_complete (cell_at cells u) (sym (ap is_marked there) ∙ is)

pub drop_unmarked-requires-clause-room : goal.drop_unmarked-requires-clause-room
drop_unmarked-requires-clause-room c = omega (arith, c.self.invariant.1.room, ap length c.deref-2.ensures.value, ap length c.end_marked.ensures.cells, length-map c.self.inside.cells.items (ended_cell c.args.is_complete))
