use Rattle.std.proofs.Common.{arith}
use Rattle.row_page.proofs.Writings.{numbers_from}
use Rattle.row_page.proofs.cell_writing.number_bytes.Goals as goal

pub returns : goal.returns
returns c =
    numbers_from c.args.key c.args.code c.args.value c.args.window.now _ _ _ _ _ _ (omega (arith, c.ranges.code.fits)) c.to_le_bytes.ensures c.to_le_bytes-2.ensures c.to_le_bytes-3.ensures c.to_le_bytes-4.ensures c.to_le_bytes-5.ensures c.to_le_bytes-6.ensures
