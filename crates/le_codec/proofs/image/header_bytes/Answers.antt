use Rattle.std.proofs.Common.{arith}
use Rattle.le_codec.proofs.Heads.{header_from}
use Rattle.le_codec.proofs.image.header_bytes.Goals as goal

pub returns : goal.returns
returns c =
    header_from c.args.kind c.args.format c.args.count c.args.used c.args.level _ _ _ (omega (arith, c.ranges.kind.fits)) (omega (arith, c.ranges.format.fits)) c.to_le_bytes.ensures c.to_le_bytes-2.ensures c.to_le_bytes-3.ensures
