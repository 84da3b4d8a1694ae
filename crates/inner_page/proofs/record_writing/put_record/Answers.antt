use Rattle.std.proofs.Common.{[], sym, subst}
use Rattle.row_page.specs.Rows.{Row, RowFits, key_most}
use Rattle.inner_page.proofs.record_writing.put_record.Goals as goal

pub put_cell-requires : goal.put_cell-requires
put_cell-requires c = subst (λ (r : Row). RowFits [] key_most r) (sym c.lent_cell-cell.ensures) c.requires.row
