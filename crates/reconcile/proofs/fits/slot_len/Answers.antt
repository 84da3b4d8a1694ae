use Rattle.std.proofs.Common.{sym}
use Rattle.reconcile.proofs.Measuring.{slot_fits}
use Rattle.reconcile.proofs.fits.slot_len.Goals as goal

pub row_len-requires : goal.row_len-requires
row_len-requires c = record { fit = slot_fits c.args.chains.now c.args.slot c.in-Some.there.now (sym c.in-Some.ensures.there) c.in-Some.ensures.own c.requires.fit }
