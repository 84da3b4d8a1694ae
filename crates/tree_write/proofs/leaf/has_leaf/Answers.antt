use Rattle.std.proofs.Common.{List, ℕ, sym, subst}
use Rattle.row_page.specs.Rows.{IsPage}
use Rattle.tree_write.proofs.Deciding.{leaf_stands, some_rows}
use Rattle.tree_write.proofs.LeafKeys.{low_some}
use Rattle.tree_write.proofs.OneBlock.{if_ok_map}
use Rattle.tree_write.proofs.leaf.has_leaf.Goals as goal

pub returns-then-is_live-clause-isnt : goal.returns-then-is_live-clause-isnt
returns-then-is_live-clause-isnt g c rows spells h = if_ok_map c.has_block.result (c.has_block.ensures.isnt h) (λ b none isnt leaf live.
    let page = subst (λ (l : List ℕ). IsPage l rows) (sym c.deref.ensures.value) spells.page in
    let there = leaf_stands (g.D.Disk.seen c.args.disk.now) c.deref.result.now c.args.link rows (some_rows rows (low_some c.args.image.now.low rows spells.low)) page leaf in
    none isnt there.0 there.1)
