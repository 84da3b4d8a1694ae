use Rattle.kv_model.proofs.TwoMoments.{reads-in-two-moments}
use Rattle.kv_model.proofs.passing.reads_in_two_moments.Goals as goal

pub returns : goal.returns
returns c = reads-in-two-moments
