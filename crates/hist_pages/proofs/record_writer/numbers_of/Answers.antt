use Rattle.std.proofs.Common.{arith}
use Rattle.row_page.proofs.Writings.{numbers_from}
use Rattle.hist_pages.proofs.Writings.{four_from}
use Rattle.hist_pages.proofs.record_writer.numbers_of.Goals as goal

pub returns : goal.returns
returns c =
    four_from c.args.table _ _ _ c.to_le_bytes.ensures
    (numbers_from c.args.key c.args.code c.args.value c.args.window.now _ _ _ _ _ _ (omega (arith, c.ranges.code.fits)) c.to_le_bytes-2.ensures c.to_le_bytes-3.ensures c.to_le_bytes-4.ensures c.to_le_bytes-5.ensures c.to_le_bytes-6.ensures c.to_le_bytes-7.ensures)
