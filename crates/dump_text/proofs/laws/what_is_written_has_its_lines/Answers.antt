use Rattle.dump_text.proofs.WrittenDumps.{one-lines}
use Rattle.dump_text.proofs.laws.what_is_written_has_its_lines.Goals as goal

pub returns : goal.returns
returns c = λ form name formats rows is. one-lines form name formats rows is
