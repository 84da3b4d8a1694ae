use Rattle.dump_text.proofs.DumpRuns.{dump-sound}
use Rattle.dump_text.proofs.laws.what_is_read_is_a_dump.Goals as goal

pub returns : goal.returns
returns c = λ lines reader said read whole. dump-sound lines reader.next said read.ran whole
