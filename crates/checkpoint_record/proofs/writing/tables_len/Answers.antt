use Rattle.std.proofs.Common.{length, take, ap, arith}
use Rattle.std.proofs.lemmas.List.{length-append}
use Rattle.std.specs.List.{flat_map}
use Rattle.stored.specs.Records.{table_text}
use Rattle.checkpoint_record.proofs.Lists.{flat_step}
use Rattle.checkpoint_record.proofs.Sizes.{length-table, tables_upto}
use Rattle.checkpoint_record.proofs.writing.tables_len.Goals as goal

pub overflow_add-len-in-loop-table : goal.overflow_add-len-in-loop-table
overflow_add-len-in-loop-table c =
    omega (arith, c.requires, c.loop-table.invariant, ap length c.name_of.ensures, tables_upto c.args.tables.now c.loop-table.table-index c.table-item.result c.loop-table-test.true c.table-item.is, length-table c.table-item.result)

pub loop-table-preserved : goal.loop-table-preserved
loop-table-preserved c =
    omega (
      arith,
      c.loop-table.invariant,
      ap length c.name_of.ensures,
      ap length (flat_step table_text c.args.tables.now c.loop-table.table-index c.table-item.result c.loop-table-test.true c.table-item.is),
      length-append (flat_map table_text (take c.loop-table.table-index c.args.tables.now)) (table_text c.table-item.result),
      length-table c.table-item.result,
    )
