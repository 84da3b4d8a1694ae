use Rattle.std.proofs.Common.{length, take, ap, arith}
use Rattle.std.proofs.lemmas.List.{length-append}
use Rattle.std.specs.List.{flat_map}
use Rattle.row_page.specs.Rows.{Row, value_of}
use Rattle.stored.specs.HistoryTree.{record_text}
use Rattle.inner_page.proofs.HistoryLeaves.{length-record}
use Rattle.inner_page.proofs.Lists.{flat_step, flat_upto}
use Rattle.inner_page.proofs.record_writing.records_len.Goals as goal

pub overflow_add-len : goal.overflow_add-len
overflow_add-len c =
    omega (arith, c.requires, c.loop-record.invariant, ap (λ (r : Row). length r.0) c.lent_cell-cell.ensures, flat_upto record_text c.args.records.now c.loop-record.record-index c.record-item.result c.loop-record-test.true c.record-item.is, length-record c.record-item.result)

pub overflow_add-len-in-loop-record : goal.overflow_add-len-in-loop-record
overflow_add-len-in-loop-record c =
    omega (arith, c.requires, c.loop-record.invariant, ap (λ (r : Row). length r.0) c.lent_cell-cell.ensures, ap length c.value.ensures, ap (λ (r : Row). length (value_of r.1.change)) c.lent_cell-cell.ensures, flat_upto record_text c.args.records.now c.loop-record.record-index c.record-item.result c.loop-record-test.true c.record-item.is, length-record c.record-item.result)

pub overflow_add-len-in-loop-record-2 : goal.overflow_add-len-in-loop-record-2
overflow_add-len-in-loop-record-2 c =
    omega (arith, c.requires, c.loop-record.invariant, ap (λ (r : Row). length r.0) c.lent_cell-cell.ensures, ap length c.value.ensures, ap (λ (r : Row). length (value_of r.1.change)) c.lent_cell-cell.ensures, flat_upto record_text c.args.records.now c.loop-record.record-index c.record-item.result c.loop-record-test.true c.record-item.is, length-record c.record-item.result)

pub loop-record-preserved : goal.loop-record-preserved
loop-record-preserved c =
    omega (
      arith,
      c.loop-record.invariant,
      ap (λ (r : Row). length r.0) c.lent_cell-cell.ensures,
      ap length c.value.ensures,
      ap (λ (r : Row). length (value_of r.1.change)) c.lent_cell-cell.ensures,
      ap length (flat_step record_text c.args.records.now c.loop-record.record-index c.record-item.result c.loop-record-test.true c.record-item.is),
      length-append (flat_map record_text (take c.loop-record.record-index c.args.records.now)) (record_text c.record-item.result),
      length-record c.record-item.result,
    )
