use Rattle.std.proofs.Common.{refl}
use Rattle.recover_open.proofs.wholes.joined.Goals as goal

pub returns : goal.returns
returns c = record { slot_is = refl; blocks_are = refl; whole = record { «record» = c.args.found; uppers = c.args.uppers; history = c.args.history }; is = refl; names = refl; uppers_are = refl; history_is = refl }
