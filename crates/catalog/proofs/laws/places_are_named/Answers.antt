use Rattle.catalog.proofs.Turning.{places_named}
use Rattle.catalog.proofs.laws.places_are_named.Goals as goal

pub returns : goal.returns
returns c = places_named
