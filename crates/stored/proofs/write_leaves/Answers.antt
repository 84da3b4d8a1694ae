use Rattle.stored.proofs.Device.{torn_on, torn_blank}
use Rattle.stored.proofs.write_leaves.Goals as goal

pub returns-clause-stored : goal.returns-clause-stored
returns-clause-stored c = λ at n old new s writes. torn_on at n old new s writes.0 writes.1 writes.2

pub returns-clause-blank : goal.returns-clause-blank
returns-clause-blank c = torn_blank
