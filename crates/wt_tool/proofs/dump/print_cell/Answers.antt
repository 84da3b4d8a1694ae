use Rattle.std.proofs.Common.{List, ℕ, Bor, Ok, sym, subst}
use Rattle.failure.specs.Counts.{Rose}
use Rattle.row_page.specs.declared.change.CellChange.{CellChange}
use Rattle.row_page.specs.Changes.{change_seen}
use Rattle.device_read.specs.Rows.{put_as}
use Rattle.wt_tool.specs.Pages.{PutsBehind, rows_text}
use Rattle.wt_tool.proofs.Dumping.{nothing_behind}
use Rattle.wt_tool.proofs.dump.print_cell.Goals as goal

pub returns-in-Put-clause-printed : goal.returns-in-Put-clause-printed
returns-in-Put-clause-printed g c =
    let K = g.K.Sink in
    subst (λ (x : CellChange (Bor (List ℕ))). PutsBehind (Rose (K.fault_count c.args.out.now) (K.fault_count c.print_row.new.out)) ⊥ (K.written c.args.out.now) (K.written c.print_row.new.out) c.args.text.now.items c.print_row.new.text.items (rows_text c.args.form (put_as c.args.cell.now.key.now (change_seen x))) c.print_row.result) (sym c.in-Put.is)
    c.print_row.ensures.printed

pub returns-in-Remove-clause-printed : goal.returns-in-Remove-clause-printed
returns-in-Remove-clause-printed g c =
    let K = g.K.Sink in
    subst (λ (x : CellChange (Bor (List ℕ))). PutsBehind (Rose (K.fault_count c.args.out.now) (K.fault_count c.args.out.now)) ⊥ (K.written c.args.out.now) (K.written c.args.out.now) c.args.text.now.items c.args.text.now.items (rows_text c.args.form (put_as c.args.cell.now.key.now (change_seen x))) (Ok tt)) (sym c.in-Remove.is)
    (nothing_behind _ c.args.text.now.items)
