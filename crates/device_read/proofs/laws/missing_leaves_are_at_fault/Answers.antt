use Rattle.device_read.proofs.LeafPlaces.{at_fault}
use Rattle.device_read.proofs.laws.missing_leaves_are_at_fault.Goals as goal

pub returns : goal.returns
returns c = at_fault
