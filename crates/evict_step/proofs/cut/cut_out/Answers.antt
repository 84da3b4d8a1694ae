use Rattle.std.proofs.Common.{refl, sym}
use Rattle.std.specs.Prelude.{option_copied}
use Rattle.evict_step.proofs.Cutting.{cuts-out}
use Rattle.evict_step.proofs.cut.cut_out.Goals as goal

pub returns-in-Some-frame_of : goal.returns-in-Some-frame_of
returns-in-Some-frame_of c = cuts-out c.keys_are_reconciled.ensures c.args.engine.now (option_copied c.args.running) c.args.leaf (c.in_default.ensures.none refl) c.in-Some-frame_of.frame.now (sym c.in-Some-frame_of.ensures.is) c.cut.result c.cut.ensures
