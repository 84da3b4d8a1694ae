use Rattle.kv_model.specs.Machine.{after}
use Rattle.snapshot.proofs.GoingOn.{follows-after, living-unseen}
use Rattle.snapshot.proofs.living_stay_unseen.Goals as goal

pub returns : goal.returns
returns c = λ m event s valid may old. living-unseen m (after m event) s (follows-after m event valid may) old
