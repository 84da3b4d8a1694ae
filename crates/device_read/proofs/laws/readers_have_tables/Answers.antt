use Rattle.device_read.proofs.Readings.{reader_tables}
use Rattle.device_read.proofs.laws.readers_have_tables.Goals as goal

pub returns : goal.returns
returns c = reader_tables
