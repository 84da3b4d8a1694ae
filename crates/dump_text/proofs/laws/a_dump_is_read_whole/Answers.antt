use Rattle.dump_text.proofs.DumpRuns.{dump-read}
use Rattle.dump_text.proofs.laws.a_dump_is_read_whole.Goals as goal

pub returns : goal.returns
returns c = λ lines reader said dump read is. dump-read dump lines reader.next said is read.ran
