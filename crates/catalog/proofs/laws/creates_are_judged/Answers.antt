use Rattle.catalog.proofs.Turning.{creates_judged}
use Rattle.catalog.proofs.laws.creates_are_judged.Goals as goal

pub returns : goal.returns
returns c = creates_judged
