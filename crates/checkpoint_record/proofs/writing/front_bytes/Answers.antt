use Rattle.std.proofs.Common.{arith}
use Rattle.checkpoint_record.proofs.Fronts.{front_from}
use Rattle.checkpoint_record.proofs.writing.front_bytes.Goals as goal

pub returns : goal.returns
returns c =
    front_from c.args.number c.args.key c.args.value c.args.level c.args.len c.args.link.now _ _ _ _ _ _ _ (omega (arith, c.ranges.key.fits)) (omega (arith, c.ranges.value.fits)) (omega (arith, c.ranges.level.fits)) (omega (arith, c.ranges.len.fits))
    c.to_le_bytes.ensures c.to_le_bytes-2.ensures c.to_le_bytes-3.ensures c.to_le_bytes-4.ensures c.to_le_bytes-5.ensures c.to_le_bytes-6.ensures c.to_le_bytes-7.ensures
