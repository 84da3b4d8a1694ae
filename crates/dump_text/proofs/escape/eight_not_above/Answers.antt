use Rattle.std.proofs.Common.{arith}
use Rattle.dump_text.proofs.PlainLanes.{none_above_of}
use Rattle.dump_text.proofs.escape.eight_not_above.Goals as goal

pub returns : goal.returns
returns c = none_above_of 8 (omega arith) c.args.bytes c.args.most c.fits-bytes.0
