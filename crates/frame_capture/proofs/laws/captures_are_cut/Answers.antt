use Rattle.frame_capture.proofs.Cutting.{captures-cut}
use Rattle.frame_capture.proofs.laws.captures_are_cut.Goals as goal

pub returns : goal.returns
returns c = captures-cut
