use Rattle.catalog.proofs.Turning.{turn_named}
use Rattle.catalog.proofs.laws.names_turn.Goals as goal

pub returns : goal.returns
returns c = turn_named
