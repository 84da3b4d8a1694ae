use Rattle.reconcile.proofs.Newest.{captured-newest}
use Rattle.reconcile.proofs.capture_laws.captured_rows_are_newest.Goals as goal

pub returns : goal.returns
returns c = captured-newest
