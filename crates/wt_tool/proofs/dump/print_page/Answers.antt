use Rattle.std.proofs.Common.{◌++◌, [], List, inl, refl, subst}
use Rattle.failure.specs.Counts.{Rose}
use Rattle.wt_io.specs.StreamLemmas.{took_none}
use Rattle.row_page.specs.Rows.{Row}
use Rattle.device_read.specs.Rows.{put_rows}
use Rattle.wt_tool.specs.Dumps.{way_of}
use Rattle.wt_tool.specs.Pages.{PutsBehind, along, rows_text}
use Rattle.wt_tool.proofs.dump.print_page.Goals as goal

pub returns-in-Ok-clause-printed : goal.returns-in-Ok-clause-printed
returns-in-Ok-clause-printed g c =
    let K = g.K.Sink in
    let out = Rose (K.fault_count c.args.out.now) (K.fault_count c.print_rows.new.out) in
    subst (λ (l : List Row). PutsBehind out ⊥ (K.written c.args.out.now) (K.written c.print_rows.new.out) c.args.text.now.items c.print_rows.new.text.items (rows_text c.args.manner.form (put_rows (along (way_of c.args.manner.reverse) l))) c.print_rows.result)
    c.in-Ok.ensures c.print_rows.ensures.printed

pub returns-in-Err-clause-printed : goal.returns-in-Err-clause-printed
returns-in-Err-clause-printed g c =
    let text = c.args.text.now.items ++ rows_text c.args.manner.form (put_rows (along (way_of c.args.manner.reverse) c.args.page.now)) in
    (inl refl, ([], text, refl, took_none (g.K.Sink.written c.args.out.now)))
