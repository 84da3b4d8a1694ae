use Rattle.leaf_frame.proofs.Reading.{held_reads}
use Rattle.leaf_frame.proofs.laws.held_reads_stand.Goals as goal

pub returns : goal.returns
returns c = held_reads c.views_admit.ensures
