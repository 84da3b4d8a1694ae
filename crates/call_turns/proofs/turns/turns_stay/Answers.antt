use Rattle.call_turns.proofs.FramedLeaves.{frames-keep}
use Rattle.call_turns.proofs.turns.turns_stay.Goals as goal

pub returns : goal.returns
returns c = frames-keep
