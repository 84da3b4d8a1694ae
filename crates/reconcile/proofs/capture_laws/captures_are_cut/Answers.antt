use Rattle.reconcile.proofs.CaptureCutting.{captures-cut}
use Rattle.reconcile.proofs.capture_laws.captures_are_cut.Goals as goal

pub returns : goal.returns
returns c = captures-cut
