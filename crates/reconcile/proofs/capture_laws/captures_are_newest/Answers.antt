use Rattle.reconcile.proofs.Newest.{captures-newest}
use Rattle.reconcile.proofs.capture_laws.captures_are_newest.Goals as goal

pub returns : goal.returns
returns c = captures-newest
