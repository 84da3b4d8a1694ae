use Rattle.device_read.proofs.Spoilt.{value_whole}
use Rattle.device_read.proofs.laws.readers_have_values.Goals as goal

pub returns : goal.returns
returns c whole bytes content h place t key v spoilt reader reads at has = value_whole whole bytes content h place t key v (c.what_is_read_is_regular.ensures whole content reads) spoilt reader reads at has
