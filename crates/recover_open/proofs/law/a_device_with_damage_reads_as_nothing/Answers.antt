use Rattle.recover_open.proofs.Devices.{whole_damage_no_content}
use Rattle.recover_open.proofs.law.a_device_with_damage_reads_as_nothing.Goals as goal

pub returns : goal.returns
returns c = whole_damage_no_content
