use Rattle.reconcile.proofs.Telling.{ones}
use Rattle.reconcile.proofs.rows_shown.rows_tell.Goals as goal

pub returns : goal.returns
returns c = ones
