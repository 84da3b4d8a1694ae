use Rattle.device_read.proofs.Spoilt.{itself}
use Rattle.device_read.proofs.laws.none_need_be_at_fault.Goals as goal

pub returns : goal.returns
returns c = itself
