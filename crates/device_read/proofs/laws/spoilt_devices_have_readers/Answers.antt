use Rattle.device_read.proofs.Spoilt.{reader_whole}
use Rattle.device_read.proofs.laws.spoilt_devices_have_readers.Goals as goal

pub returns : goal.returns
returns c = reader_whole
