use Rattle.dump_text.proofs.DumpRuns.{dump-read}
use Rattle.dump_text.proofs.WrittenDumps.{dump-written}
use Rattle.dump_text.proofs.laws.what_is_written_is_read.Goals as goal

pub returns : goal.returns
returns c = λ form name formats rows reader said are read. dump-read _ _ reader.next said (dump-written form name formats rows are) read.ran
