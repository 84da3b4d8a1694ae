use Rattle.checkpoint_record.proofs.Recorded.{recorded}
use Rattle.checkpoint_record.proofs.records_are_recorded.Goals as goal

pub returns : goal.returns
returns c = recorded
