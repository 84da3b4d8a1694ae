use Rattle.std.proofs.Common.{[], List, length, ◌∙◌, ap, arith}
use Rattle.std.proofs.lemmas.List.{get_or_past}
use Rattle.block_mgr.specs.declared.cell.Cell.{Cell}
use Rattle.block_mgr.specs.Cells.{nothing, cell_at}
use Rattle.block_mgr.proofs.MarkLemmas.{listed_none, listed_grown}
use Rattle.block_mgr.proofs.OpenLemmas.{units_none}
use Rattle.block_mgr.proofs.holders.Holders.new.Goals as goal

pub invariant_of-result : goal.invariant_of-result
invariant_of-result c = (
  units_none c.new.result.items c.new-2.result 8192 (λ u. ap (λ (l : List Cell). cell_at l u) c.new.ensures.items ∙ get_or_past [] u nothing (omega arith)) (omega (arith, ap length c.new.ensures.items)) (omega (arith, ap length c.new-2.ensures)) (omega arith) (omega arith) (λ b low high. absurd (omega (arith, low, high))),
  listed_grown [] c.new.result.items [] c.new-3.result.items 0 _ (listed_none 0) c.new.ensures.items c.new-3.ensures.items (omega arith),
)
