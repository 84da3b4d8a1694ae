use Rattle.std.proofs.Common.{arith}
use Rattle.dump_text.proofs.PlainLanes.{none_below_of}
use Rattle.dump_text.proofs.escape.eight_not_below.Goals as goal

pub returns : goal.returns
returns c = none_below_of 8 (omega arith) c.args.bytes c.args.least c.fits-bytes.0
