use Rattle.std.proofs.Common.{◌∙◌, inl, inr, refl}
use Rattle.failure.specs.Counts.{Rose}
use Rattle.wt_io.specs.StreamLemmas.{took_none}
use Rattle.device_read.proofs.Spoilt.{reader_whole}
use Rattle.wt_tool.specs.Damaged.{IsTableOn}
use Rattle.wt_tool.specs.Dumps.{way_of}
use Rattle.wt_tool.proofs.Dumping.{none_printed, rows_printed, table_lacks}
use Rattle.wt_tool.proofs.dump.print_table.Goals as goal

pub returns-in_default-clause-run : goal.returns-in_default-clause-run
returns-in_default-clause-run g c h whole content reads spoilt =
    let reader = reader_whole whole (g.D.Disk.seen c.args.disk.now) c.args.reader.now spoilt (c.requires.on h) in
    let tables = c.readers_have_tables.ensures whole content c.args.reader.now reader reads in
    inl (inl (tables.named_alike c.args.name.now ∙ c.in_default.ensures.none, refl, refl, took_none _))

pub returns-in-Ok-clause-run : goal.returns-in-Ok-clause-run
returns-in-Ok-clause-run g c h whole content reads spoilt =
    let K = g.K.Sink in
    let D = g.D.Disk in
    let bytes = D.seen c.args.disk.now in
    let reader = reader_whole whole bytes c.args.reader.now spoilt (c.requires.on h) in
    let found = c.in-Some.ensures.found in
    let tables = c.readers_have_tables.ensures whole content c.args.reader.now reader reads in
    let pages = c.readers_have_pages.ensures whole content c.args.reader.now c.in-Some.table.place found.0 reader reads found.1 in
    let on : IsTableOn bytes c.args.name.now = record { held = c.args.reader.now; reader = c.requires.on h; place = c.in-Some.table.place; table = found.0; there = found.1; is_named = found.2 } in
    elim (c.print_leaves.ensures.run h whole spoilt pages.0 pages.1.has pages.1.count) [
      | inl ended ↦ inl (inr (
        found.0,
        tables.named_alike c.args.name.now ∙ found.2,
        rows_printed (Rose (K.fault_count c.args.out.now) (K.fault_count c.print_leaves.new.out)) (Rose (D.faults c.args.disk.now) (D.faults c.print_leaves.new.disk)) whole content c.args.reader.now c.in-Some.table.place found.0 c.args.manner.form (way_of c.args.manner.reverse) c.args.name.now
            (K.written c.args.out.now) (K.written c.print_leaves.new.out) c.print_leaves.result pages.0 pages.1 c.in-Ok.head.items c.in-Some.table.formats c.in-Ok.ensures found.3 ended,
      ))
      | inr ended ↦ inr (table_lacks whole bytes content c.args.manner.form (way_of c.args.manner.reverse) c.args.name.now (K.written c.args.out.now) (K.written c.print_leaves.new.out) c.print_leaves.result on (tables.named_alike c.args.name.now ∙ found.2) pages.0 pages.1 c.in-Ok.head.items c.in-Some.table.formats
          c.in-Ok.ensures found.3 ended)
    ]

pub returns-in-Err-clause-run : goal.returns-in-Err-clause-run
returns-in-Err-clause-run g c h whole content reads spoilt =
    let K = g.K.Sink in
    let D = g.D.Disk in
    let reader = reader_whole whole (D.seen c.args.disk.now) c.args.reader.now spoilt (c.requires.on h) in
    let found = c.in-Some.ensures.found in
    let tables = c.readers_have_tables.ensures whole content c.args.reader.now reader reads in
    let pages = c.readers_have_pages.ensures whole content c.args.reader.now c.in-Some.table.place found.0 reader reads found.1 in
    inl (inr (
      found.0,
      tables.named_alike c.args.name.now ∙ found.2,
      none_printed (Rose (K.fault_count c.args.out.now) (K.fault_count c.args.out.now)) (Rose (D.faults c.args.disk.now) (D.faults c.args.disk.now)) whole content c.args.reader.now c.in-Some.table.place found.0 c.args.manner.form (way_of c.args.manner.reverse) c.args.name.now (K.written c.args.out.now) pages.0 pages.1,
    ))
