use Rattle.recover_open.proofs.Devices.{damage_no_content}
use Rattle.recover_open.proofs.law.a_damaged_device_reads_as_nothing.Goals as goal

pub returns : goal.returns
returns c = damage_no_content
