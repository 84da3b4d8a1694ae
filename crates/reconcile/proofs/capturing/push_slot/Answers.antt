use Rattle.std.proofs.Common.{sym}
use Rattle.reconcile.proofs.Measuring.{slot_fits}
use Rattle.reconcile.proofs.capturing.push_slot.Goals as goal

pub push_captured-requires : goal.push_captured-requires
push_captured-requires c = record { fit = slot_fits c.args.chains.now c.args.slot c.in-Some.there.now (sym c.in-Some.ensures.there) c.in-Some.ensures.own c.requires.fit }
