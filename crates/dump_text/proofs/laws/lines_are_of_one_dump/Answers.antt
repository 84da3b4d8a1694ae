use Rattle.dump_text.proofs.DumpRuns.{one-dump}
use Rattle.dump_text.proofs.laws.lines_are_of_one_dump.Goals as goal

pub returns : goal.returns
returns c = λ lines dump other is also. one-dump lines dump other is also
