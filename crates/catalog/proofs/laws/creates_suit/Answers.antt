use Rattle.catalog.proofs.Turning.{creates_are_suited}
use Rattle.catalog.proofs.laws.creates_suit.Goals as goal

pub returns : goal.returns
returns c = creates_are_suited
