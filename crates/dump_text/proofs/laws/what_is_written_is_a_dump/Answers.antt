use Rattle.dump_text.proofs.WrittenDumps.{dump-written}
use Rattle.dump_text.proofs.laws.what_is_written_is_a_dump.Goals as goal

pub returns : goal.returns
returns c = λ form name formats rows are. dump-written form name formats rows are
