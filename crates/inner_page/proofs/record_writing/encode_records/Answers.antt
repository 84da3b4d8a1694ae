use Rattle.std.proofs.Common.{arith}
use Rattle.inner_page.proofs.HistoryLeaves.{records_upto}
use Rattle.inner_page.proofs.record_writing.encode_records.Goals as goal

pub overflow_cast-records : goal.overflow_cast-records
overflow_cast-records c = omega (arith, records_upto c.args.records.now, c.requires.size)

pub put_records-requires : goal.put_records-requires
put_records-requires c = c.requires.fit
