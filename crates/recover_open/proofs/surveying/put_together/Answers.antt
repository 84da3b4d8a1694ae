use Rattle.std.proofs.Common.{refl}
use Rattle.recover_open.proofs.surveying.put_together.Goals as goal

pub returns : goal.returns
returns c = record { slot_is = refl; blocks_are = refl; above = record { «record» = c.args.found; uppers = c.args.uppers }; is = refl; names = refl; uppers_are = refl }
