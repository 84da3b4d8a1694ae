use Rattle.std.proofs.Common.{arith}
use Rattle.dump_text.proofs.PlainLanes.{none_is_of}
use Rattle.dump_text.proofs.escape.none_is.Goals as goal

pub returns : goal.returns
returns c = none_is_of 32 (omega arith) c.args.bytes c.args.byte c.fits-bytes.0
