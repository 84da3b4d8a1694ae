use Rattle.kv_model.specs.Machine.{after}
use Rattle.snapshot.proofs.GoingOn.{committed-goes-on, follows-after}
use Rattle.snapshot.proofs.committed_go_on.Goals as goal

pub returns : goal.returns
returns c = λ m event n s v may old. committed-goes-on m (after m event) n s v (follows-after m event v may) old
