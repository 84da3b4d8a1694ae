use Rattle.std.proofs.Common.{[], ◌∷◌, sym, subst}
use Rattle.reconcile.specs.Capture.{ChainsFit}
use Rattle.reconcile.proofs.Fitting.{install_fits}
use Rattle.reconcile_tests.proofs.tests.install.Goals as goal

pub returns : goal.returns
returns c = subst ChainsFit (sym c.in_ok-_slot.ensures.installed) (install_fits (c.args.write.now.key ∷ []) c.in_ok-update.update c.args.chains.now c.in_ok-update.ensures c.requires)
