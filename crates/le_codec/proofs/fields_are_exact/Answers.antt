use Rattle.le_codec.proofs.Laws.{byte_field, field16, field32, field64, slice_field}
use Rattle.le_codec.proofs.fields_are_exact.Goals as goal

pub returns-clause-u8 : goal.returns-clause-u8
returns-clause-u8 c = byte_field

pub returns-clause-u16 : goal.returns-clause-u16
returns-clause-u16 c = field16

pub returns-clause-u32 : goal.returns-clause-u32
returns-clause-u32 c = field32

pub returns-clause-u64 : goal.returns-clause-u64
returns-clause-u64 c = field64

pub returns-clause-slice : goal.returns-clause-slice
returns-clause-slice c = slice_field
