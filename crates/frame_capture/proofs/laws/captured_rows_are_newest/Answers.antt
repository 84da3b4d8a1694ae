use Rattle.frame_capture.proofs.Newest.{captured-newest}
use Rattle.frame_capture.proofs.laws.captured_rows_are_newest.Goals as goal

pub returns : goal.returns
returns c = captured-newest
