use Rattle.frame_capture.proofs.Newest.{captures-newest}
use Rattle.frame_capture.proofs.laws.captures_are_newest.Goals as goal

pub returns : goal.returns
returns c = captures-newest
