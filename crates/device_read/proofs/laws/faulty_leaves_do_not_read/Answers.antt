use Rattle.device_read.proofs.Readings.{fault_no_content}
use Rattle.device_read.proofs.laws.faulty_leaves_do_not_read.Goals as goal

pub returns : goal.returns
returns c = fault_no_content
