use Rattle.reconcile.proofs.Sifting.{keys-reconciled}
use Rattle.reconcile.proofs.laws.keys_are_reconciled.Goals as goal

pub returns : goal.returns
returns c = keys-reconciled
