use Rattle.stored.proofs.Regular.{regular_read}
use Rattle.stored.proofs.what_is_read_is_regular.Goals as goal

pub returns : goal.returns
returns c = regular_read
