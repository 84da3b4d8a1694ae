use Rattle.stored.proofs.Device.{frame_on, frame_blank}
use Rattle.stored.proofs.has_still.Goals as goal

pub returns-clause-stored : goal.returns-clause-stored
returns-clause-stored c = λ old new s spares. frame_on old new s spares.0 spares.1 spares.2

pub returns-clause-blank : goal.returns-clause-blank
returns-clause-blank c = frame_blank
